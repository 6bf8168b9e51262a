use Rattle.std.proofs.Common.{[], refl}
use Rattle.cw_model.proofs.judged.empty_files_stand_for_the_empty_cluster.Goals as goal

pub returns : goal.returns
returns c = record {
  frames = record { config = []; offsets = []; status = []; txn = []; batches = [] };
  read = record { config = tt; offsets = tt; status = tt; txn = tt; batches = tt };
  allowed = (tt, (tt, (tt, (tt, (tt, tt)))));
  safe = (tt, (tt, (tt, (tt, (tt, tt)))));
  holds = record { config = refl; offsets = refl; status = refl; txn = refl; batches = refl };
  opened = record {
    configs = refl;
    statuses = refl;
    entries = refl;
    group = refl;
    lost = refl;
    delay = refl;
    moment = refl;
    rows = refl;
    instances = refl;
    journal = refl;
    closed = refl;
  };
}
