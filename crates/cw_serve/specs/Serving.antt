-- How a server ends. This project's own.
use Rattle.std.specs.Prelude.{◌≡◌, ◌≢◌, ◌⊎◌, ◌+◌, ◌≤◌, ℕ, Bool, All, length, true, false, Option, None, Some}
use Rattle.cw_types.specs.declared.logs.DiskName.{DiskName}
use Rattle.cw_types.specs.Faults.{Rose}
use Rattle.cw_io.specs.declared.outlet.Outlet as outlet
use Rattle.cw_net.specs.declared.listener.Listener as listener
use Rattle.cw_desk.specs.declared.comparing.Disagree.{Disagree}
use Rattle.cw_desk.specs.Comparing.{AreTheJournal, IsFound, receipts_in}
use Rattle.cw_world.specs.World.{WorldState}
use Rattle.cw_serve.specs.declared.ends.Served.{Served}
use Rattle.cw_serve.specs.declared.shared.Stop.{Stop}
use Rattle.cw_serve.specs.declared.shared.Stop.TheVariants.{Memory, OutletFault}
use Rattle.cw_serve.specs.declared.ends.ServeEnd.{ServeEnd}
use Rattle.cw_serve.specs.declared.ends.ServeEnd.TheVariants as end

-- the receipts were found to be the journal
abbrev pub IsAgreed : ServeEnd → Type 0
IsAgreed e = (d : Disagree) → e ≢ end.Disagree d

-- why a server ended whose receipts are its journal: a failed disk, else the first stop, else a failed listener
abbrev pub end_of : Option (DiskName × ℕ) → Option Stop → (rose failed : Bool) → ServeEnd
end_of (Some (disk, count)) stop rose failed = end.StoreFault disk count
end_of None (Some OutletFault) true failed = end.OutletFault
end_of None (Some OutletFault) false failed = end.Memory
end_of None (Some Memory) rose failed = end.Memory
end_of None None rose true = end.NetFault
end_of None None rose false = end.Done

-- a receipt of this world isn't its journal's entry of that number, or it is one of two receipts of that number
pub record Differs {D : Type 0} (world : WorldState D) (d : Disagree) : Type 0 where
  pub at : d.at ≡ d.kept.number
  pub found : IsFound world.state.journal d.kept d.found
  pub name : d.kept.name ≡ world.name
  pub other : All (λ r. r.name ≡ world.name) (receipts_in d.found)

-- what is so of a server's end, which began with an outlet and a listener and was to accept so many links
pub record IsServed {D U N K : Type 0} (O : outlet.Ghosts U) (L : listener.Ghosts N K) (conns : ℕ) (began : U) (net : N)
    (s : Served D U N) : Type 0 where
  pub ledger : IsAgreed s.end → AreTheJournal s.world.state.journal s.receipts.items
  pub differs : (d : Disagree) → s.end ≡ end.Disagree d → Differs s.world d
  pub alive : s.end ≡ end.Done → s.world.state.closed ≡ None
  pub done : s.end ≡ end.Done → (length (L.given s.net) ≡ length (L.given net) + conns) ⊎ (L.ended s.net ≡ true)
  pub given : length (L.given net) ≤ length (L.given s.net)
  pub most : length (L.given s.net) ≤ length (L.given net) + conns
  pub store : (disk : DiskName) (count : ℕ) → s.end ≡ end.StoreFault disk count →
      s.world.state.closed ≡ Some (disk, count)
  pub closed : (disk : DiskName) (count : ℕ) → s.world.state.closed ≡ Some (disk, count) → IsAgreed s.end →
      s.end ≡ end.StoreFault disk count
  pub outlet_fault : s.end ≡ end.OutletFault → Rose (O.faults began) (O.faults s.outlet)
  pub net_fault : s.end ≡ end.NetFault → Rose (L.faults net) (L.faults s.net)
  pub later_outlet : O.faults began ≤ O.faults s.outlet
  pub later_net : L.faults net ≤ L.faults s.net
