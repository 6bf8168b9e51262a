-- What is stored is read in one way, so that it stands for one state.
use Rattle.std.proofs.Common.{◌≡◌, ℕ, List, [], ◌∷◌, Some, refl, ap, ◌∙◌, sym}
use Rattle.cw_bytes.specs.Unread.{Unread}
use Rattle.cw_bytes.specs.Reading.{Read, records_at}
use Rattle.cw_bytes.specs.Frames.{joined}
use Rattle.cw_config.specs.Compaction.{configs_in}
use Rattle.cw_txn.specs.BodyReading.{entries_at}
use Rattle.cw_offset.specs.BodyReading.{entry_at as stored_at}
use Rattle.cw_data.specs.BodyReading.{entry_at as data_at}
use Rattle.cw_model.specs.State.{Cluster}
use Rattle.cw_model.specs.Bodies.{statuses_in}
use Rattle.cw_model.specs.StandsFor.{Stored, Frames, AreReadAs, AreRead, StandFor, on_side_of}

-- a body is read in one way
one-reading : {A : Type 0} (x y : A) → Some x ≡ Some y → x ≡ y
one-reading x y same = cc

-- and so are all bodies of a log
pub AreReadAs-one : {A : Type 0} (at : Unread → Read A) (bodies : List (List ℕ)) (xs ys : List A) → AreReadAs at bodies xs → AreReadAs at bodies ys → xs ≡ ys
AreReadAs-one at [] [] [] a b = refl
AreReadAs-one at [] [] (y ∷ ys) a b = absurd b
AreReadAs-one at [] (x ∷ xs) ys a b = absurd a
AreReadAs-one at (body ∷ bodies) [] ys a b = absurd a
AreReadAs-one at (body ∷ bodies) (x ∷ xs) [] a b = absurd b
AreReadAs-one at (body ∷ bodies) (x ∷ xs) (y ∷ ys) a b =
    let here : x ≡ y = one-reading x y (sym a.0 ∙ b.0) in
    let behind : xs ≡ ys = AreReadAs-one at bodies xs ys a.1 b.1 in cc

-- all logs are read in one way
pub AreRead-one : (stored : Stored) (f g : Frames) → AreRead stored f → AreRead stored g → f ≡ g
AreRead-one stored f g a b =
    let config : f.config ≡ g.config = AreReadAs-one records_at stored.config.frames f.config g.config a.config b.config in
    let offsets : f.offsets ≡ g.offsets = AreReadAs-one stored_at stored.offsets.frames f.offsets g.offsets a.offsets b.offsets in
    let status : f.status ≡ g.status = AreReadAs-one records_at stored.status.frames f.status g.status a.status b.status in
    let txn : f.txn ≡ g.txn = AreReadAs-one entries_at stored.txn f.txn g.txn a.txn b.txn in
    let batches : f.batches ≡ g.batches = AreReadAs-one data_at stored.batches f.batches g.batches a.batches b.batches in
    λ i. record { config = config i; offsets = offsets i; status = status i; txn = txn i; batches = batches i }

-- each field of a state is what is stored, or what is read of that, or that of a cluster without workers
pub StandFor-one : (stored : Stored) (s t : Cluster) → StandFor stored s → StandFor stored t → s ≡ t
StandFor-one stored s t a b =
    let frames : a.frames ≡ b.frames = AreRead-one stored a.frames b.frames a.read b.read in
    let config : s.config ≡ t.config = a.holds.config ∙ ap (λ f. on_side_of stored.config f.config) frames ∙ sym b.holds.config in
    let offsets : s.offsets ≡ t.offsets = a.holds.offsets ∙ ap (λ f. on_side_of stored.offsets f.offsets) frames ∙ sym b.holds.offsets in
    let status : s.status ≡ t.status = a.holds.status ∙ ap (λ f. on_side_of stored.status f.status) frames ∙ sym b.holds.status in
    let txn : s.txn ≡ t.txn = a.holds.txn ∙ ap (λ f. f.txn) frames ∙ sym b.holds.txn in
    let batches : s.batches ≡ t.batches = a.holds.batches ∙ ap (λ f. f.batches) frames ∙ sym b.holds.batches in
    let configs : s.configs ≡ t.configs = a.opened.configs ∙ ap (λ log. configs_in log.frames) config ∙ sym b.opened.configs in
    let statuses : s.statuses ≡ t.statuses = a.opened.statuses ∙ ap (λ log. statuses_in log.frames) status ∙ sym b.opened.statuses in
    let entries : s.entries ≡ t.entries = a.opened.entries ∙ ap joined txn ∙ sym b.opened.entries in
    let group : s.group ≡ t.group = a.opened.group ∙ sym b.opened.group in
    let lost : s.lost ≡ t.lost = a.opened.lost ∙ sym b.opened.lost in
    let delay : s.delay ≡ t.delay = a.opened.delay ∙ sym b.opened.delay in
    let moment : s.moment ≡ t.moment = a.opened.moment ∙ sym b.opened.moment in
    let rows : s.rows ≡ t.rows = a.opened.rows ∙ sym b.opened.rows in
    let instances : s.instances ≡ t.instances = a.opened.instances ∙ sym b.opened.instances in
    let journal : s.journal ≡ t.journal = a.opened.journal ∙ sym b.opened.journal in
    let closed : s.closed ≡ t.closed = a.opened.closed ∙ sym b.opened.closed in
    λ i. record {
      config = config i;
      offsets = offsets i;
      status = status i;
      txn = txn i;
      batches = batches i;
      configs = configs i;
      statuses = statuses i;
      entries = entries i;
      group = group i;
      lost = lost i;
      delay = delay i;
      moment = moment i;
      rows = rows i;
      instances = instances i;
      journal = journal i;
      closed = closed i;
    }
