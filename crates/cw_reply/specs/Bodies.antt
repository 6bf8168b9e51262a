-- What is read of a body, as the definitions of calls have it.
use Rattle.cw_rest.specs.Bodies.{Asked as AskedFor}
use Rattle.cw_reply.specs.declared.body.Asked.{Asked}

-- a connector that is asked for
abbrev pub asked_of : Asked → AskedFor
asked_of asked = record { name = asked.name; config = asked.config }
