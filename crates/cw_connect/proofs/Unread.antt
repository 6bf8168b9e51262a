-- Words that weren't read: nothing is touched.
use Rattle.std.proofs.Common.{◌≡◌, ℕ, List, [], None, Result, Err, inl, inr, refl, subst, sym, arith}
use Rattle.cw_disk.specs.declared.device.Disk.{Ghosts}
use Rattle.cw_io.specs.declared.outlet.Outlet as outlet
use Rattle.cw_io.specs.declared.shelf.Shelf as shelf
use Rattle.cw_io.specs.declared.traits.Source.{Ghosts as Input}
use Rattle.cw_io.specs.declared.traits.Sink.{Ghosts as Output}
use Rattle.cw_log.specs.declared.fault.Harm.{Harm}
use Rattle.cw_io.specs.declared.link.Link as link
use Rattle.cw_net.specs.declared.listener.Listener as listener
use Rattle.cw_types.specs.declared.logs.DiskName.{DiskName}
use Rattle.cw_words.specs.Asked.{command_of}
use Rattle.cw_words.specs.declared.command.Command.{Command}
use Rattle.cw_words.specs.declared.command.Command.TheVariants.{Drive, Audit, Gen, Serve}
use Rattle.cw_words.specs.declared.command.WordsFault.{WordsFault}
use Rattle.cw_words.specs.declared.command.WordsFault.TheVariants as why
use Rattle.cw_world.specs.Receipts.{JournalState, ReceiptState}
use Rattle.cw_connect.specs.Ended.{Handed, HasEnded}
use Rattle.cw_connect.specs.Served.{NothingServed}
use Rattle.cw_connect.specs.Statuses.{status_of_words}
use Rattle.cw_connect.specs.declared.status.Status.{Status}
use Rattle.cw_connect.specs.declared.status.Status.TheVariants.{Done, Usage, ReadFault, WriteFault, StoreFault, Damaged, ShelfFault, OutletFault, NetFault, Memory}
use Rattle.cw_connect.proofs.Commands.{some_or_none}

-- no object has failed, and no file was refused
record IsNobodysFault (status : Status) : Type 0 where
  damaged : (disk : DiskName) (at : ℕ) (harm : Harm) → status ≡ Damaged disk at harm → ⊥
  store : (disk : DiskName) (count : ℕ) → status ≡ StoreFault disk count → ⊥
  shelf : status ≡ ShelfFault → ⊥
  outlet : status ≡ OutletFault → ⊥
  net : status ≡ NetFault → ⊥
  read : status ≡ ReadFault → ⊥
  write : status ≡ WriteFault → ⊥
  done : status ≡ Done → ⊥

memory_is : IsNobodysFault Memory
memory_is = record {
  damaged = λ disk at harm is. cc;
  store = λ disk count is. cc;
  shelf = λ is. cc;
  outlet = λ is. cc;
  net = λ is. cc;
  read = λ is. cc;
  write = λ is. cc;
  done = λ is. cc;
}

usage_is : IsNobodysFault Usage
usage_is = record {
  damaged = λ disk at harm is. cc;
  store = λ disk count is. cc;
  shelf = λ is. cc;
  outlet = λ is. cc;
  net = λ is. cc;
  read = λ is. cc;
  write = λ is. cc;
  done = λ is. cc;
}

memory_or_usage : Memory ≡ Usage → ⊥
memory_or_usage is = cc

module _ {D I O H U N L : Type 0} (G : Ghosts D) (i : Input I) (o : Output O) (S : shelf.Ghosts H) (u : outlet.Ghosts U) (n : listener.Ghosts N L) (k : link.Ghosts L) (words : List (List ℕ)) (old : Handed D I O H U N)
    (journal : JournalState) (receipts : List ReceiptState) (none_kept : journal ≡ record { entries = []; name = None }) (no_receipts : receipts ≡ []) where
  nothing : NothingServed old.net old.net journal receipts
  nothing = record { same_net = refl; no_journal = none_kept; no_receipts = no_receipts }

  -- memory was wanting
  pub wanting : HasEnded G i o S u n k words Memory old old journal receipts
  wanting = record {
    drives = λ options asked. inl (record { nothing = (refl, refl, refl); left = inl refl });
    audits = λ options asked. (refl, inl refl);
    audits_apart = λ options asked. (refl, refl);
    generates = λ options asked. refl;
    generates_apart = λ options asked. refl;
    serves = λ options asked. inl (record { nothing = (refl, nothing); left = inl refl });
    serves_apart = λ options asked. (refl, refl);
    net_apart = λ other. nothing;
    makes = λ options asked empty done. absurd (memory_is.done done);
    usage = λ is. absurd (memory_or_usage is);
    no_command = λ none. inr refl;
    untouched = λ none. refl;
    damaged_only = λ disk at harm is. absurd (memory_is.damaged disk at harm is);
    damaged = λ command asked opens files tell at place harm has. tt;
    store_fault = λ disk count is. absurd (memory_is.store disk count is);
    shelf_fault = λ is. absurd (memory_is.shelf is);
    outlet_fault = λ is. absurd (memory_is.outlet is);
    net_fault = λ is. absurd (memory_is.net is);
    read_fault = λ is. absurd (memory_is.read is);
    write_fault = λ is. absurd (memory_is.write is);
    later_in = omega arith;
    later_out = omega arith;
    later_shelf = omega arith;
    later_outlet = omega arith;
    later_net = omega arith;
    later_disks = λ disk. omega arith;
    complete = λ options asked bytes told files tell stored s lists stand fine calm_in calm_out calm_shelf calm_outlet calm_disks. inr refl;
    reported = λ options asked files tell stored s lists stand calm_out calm_shelf calm_disks. inr refl;
    summed = λ options asked calm. inr refl;
    served_complete = λ options asked files tell stored s lists stand calm_shelf calm_outlet calm_net calm_disks. tt;
  }

  -- or the words are no command
  pub unasked : command_of words ≡ None → HasEnded G i o S u n k words Usage old old journal receipts
  unasked none = record {
    drives = λ options asked. absurd (some_or_none (command_of words) (Drive options) asked none);
    audits = λ options asked. absurd (some_or_none (command_of words) (Audit options) asked none);
    audits_apart = λ options asked. (refl, refl);
    generates = λ options asked. absurd (some_or_none (command_of words) (Gen options) asked none);
    generates_apart = λ options asked. refl;
    serves = λ options asked. absurd (some_or_none (command_of words) (Serve options) asked none);
    serves_apart = λ options asked. (refl, refl);
    net_apart = λ other. nothing;
    makes = λ options asked empty done. absurd (usage_is.done done);
    usage = λ is. none;
    no_command = λ is. inl refl;
    untouched = λ is. refl;
    damaged_only = λ disk at harm is. absurd (usage_is.damaged disk at harm is);
    damaged = λ command asked opens files tell at place harm has. absurd (some_or_none (command_of words) command asked none);
    store_fault = λ disk count is. absurd (usage_is.store disk count is);
    shelf_fault = λ is. absurd (usage_is.shelf is);
    outlet_fault = λ is. absurd (usage_is.outlet is);
    net_fault = λ is. absurd (usage_is.net is);
    read_fault = λ is. absurd (usage_is.read is);
    write_fault = λ is. absurd (usage_is.write is);
    later_in = omega arith;
    later_out = omega arith;
    later_shelf = omega arith;
    later_outlet = omega arith;
    later_net = omega arith;
    later_disks = λ disk. omega arith;
    complete = λ options asked. absurd (some_or_none (command_of words) (Drive options) asked none);
    reported = λ options asked. absurd (some_or_none (command_of words) (Audit options) asked none);
    summed = λ options asked. absurd (some_or_none (command_of words) (Gen options) asked none);
    served_complete = λ options asked. absurd (some_or_none (command_of words) (Serve options) asked none);
  }

  -- as the fault of the words has it
  pub unread : (fault : WordsFault) (status : Status) → status ≡ status_of_words fault → (◌≡◌ {A = Result Command WordsFault} (Err fault) (Err why.Usage) → command_of words ≡ None) →
      HasEnded G i o S u n k words status old old journal receipts
  unread why.Usage status is none = subst (λ (s : Status). HasEnded G i o S u n k words s old old journal receipts) (sym is) (unasked (none refl))
  unread why.Memory status is none = subst (λ (s : Status). HasEnded G i o S u n k words s old old journal receipts) (sym is) wanting
