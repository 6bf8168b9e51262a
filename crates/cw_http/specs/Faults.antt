-- Why no request is read where no more bytes are.
use Rattle.cw_http.specs.declared.request.HttpFault.{HttpFault}
use Rattle.cw_http.specs.declared.request.HttpFault.TheVariants as http
use Rattle.cw_http.specs.declared.reading.ReadFault.{ReadFault}
use Rattle.cw_http.specs.declared.reading.ReadFault.TheVariants.{Ended, Failed, Memory}

-- the fault of a request whose bytes don't come
abbrev pub fault_of : ReadFault → HttpFault
fault_of Ended = http.Ended
fault_of Failed = http.LinkFault
fault_of Memory = http.Memory
