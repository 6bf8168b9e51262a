-- Files have one first harm at most.
use Rattle.std.proofs.Common.{◌≡◌, inl, inr, ℕ, suc, Bool, true, false, List, [], ◌∷◌, ◌++◌, length, refl, sym, ap, subst, ◌∙◌, arith, append_assoc}
use Rattle.std.proofs.lemmas.List.{append-nil}
use Rattle.cw_types.specs.declared.logs.DiskName.{DiskName}
use Rattle.cw_types.specs.declared.logs.LogName.{LogName}
use Rattle.cw_types.specs.declared.logs.LogName.TheVariants.{Config, Offsets, Status, Txn, Batches}
use Rattle.cw_bytes.specs.Frames.{EachFrom}
use Rattle.cw_log.specs.Log.{kind_of}
use Rattle.cw_log.specs.declared.fault.Harm.{Harm}
use Rattle.cw_log.specs.declared.fault.Harm.TheVariants.{Magic, Version, Kind, Header, SameSide, Length, Content, Unsafe}
use Rattle.cw_log.proofs.OneReading.{one_harm, sound, stands_for_one}
use Rattle.cw_pair.specs.Pair.{IsGreatest, IsRight}
use Rattle.cw_pair.specs.State.{side_of}
use Rattle.cw_pair.proofs.Harms.{one_pair_harm}
use Rattle.cw_pair.proofs.Pairs.{behind_low, not_both, pair_one, pair_sound}
use Rattle.cw_model.specs.StandsFor.{Stored, Frames, AreRead, Judgement, IsFirstLacking, IsFirstOf, IsFirstNotAllowed, IsFirstUnsafe, IsFirstHarm, judged, reading_of, allowing_of, safety_of}
use Rattle.cw_model.proofs.Stored.{AreRead-one}
use Rattle.cw_laws.proofs.Framed.{each_from-rest}
use Rattle.cw_open.specs.FoundFrames.{StandsAt}
use Rattle.cw_open.specs.Judged.{HasChosenSide, IsChosenDisk, HasFirstHarm, HasFrameHarm}
use Rattle.cw_open.specs.Reopened.{DiskFiles, FilesHold, FirstHarmFrom, HasFileHarm, HasPairHarm, HasTopicHarm, StandForSome, all_logs}
use Rattle.cw_world.specs.Logs.{disk_of, list_in}
use Rattle.cw_laws.proofs.NoHarm.{reads-all, allows-all}

-- ---- the first that lacks something

module _ {A : Type 0} (P : List A → A → Type 0) where
  first_one : (old a : List A) (x : A) (r b : List A) (y : A) (s : List A) → a ++ x ∷ r ≡ b ++ y ∷ s → EachFrom P old a → EachFrom P old b → (P (old ++ a) x → ⊥) → (P (old ++ b) y → ⊥) → length a ≡ length b
  first_one old [] x r [] y s same each_a each_b lacks_x lacks_y = refl
  first_one old [] x r (b0 ∷ b) y s same each_a each_b lacks_x lacks_y =
      let is : b0 ≡ x = cc in absurd (lacks_x (subst (λ (l : List A). P l x) (sym (append-nil old)) (subst (P old) is each_b.0)))
  first_one old (a0 ∷ a) x r [] y s same each_a each_b lacks_x lacks_y =
      let is : a0 ≡ y = cc in absurd (lacks_y (subst (λ (l : List A). P l y) (sym (append-nil old)) (subst (P old) is each_a.0)))
  first_one old (a0 ∷ a) x r (b0 ∷ b) y s same each_a each_b lacks_x lacks_y =
      let is : b0 ≡ a0 = cc in
      let rest : a ++ x ∷ r ≡ b ++ y ∷ s = cc in
      ap (λ (n : ℕ). suc n) (first_one (old ++ a0 ∷ []) a x r b y s rest each_a.1 (subst (λ (z : A). EachFrom P (old ++ z ∷ []) b) is each_b.1)
      (λ p. lacks_x (subst (λ (l : List A). P l x) (append_assoc old (a0 ∷ []) a) p))
      (λ p. lacks_y (subst (λ (l : List A). P l y) (ap (λ (z : A). old ++ z ∷ b) (sym is)) (subst (λ (l : List A). P l y) (append_assoc old (a0 ∷ []) b) p))))

  -- a judgement that can be met in one way
  lacking_one : (xs : List A) (at at' : ℕ) → IsFirstLacking P xs at → IsFirstLacking P xs at' → at ≡ at'
  lacking_one xs at at' f f' = sym f.place ∙ first_one [] f.before f.lacking f.behind f'.before f'.lacking f'.behind (sym f.split ∙ f'.split) f.each f'.each f.lacks f'.lacks ∙ f'.place

pub record IsExact (judge : Judgement) : Type 0 where
  pub not_both : (at : ℕ) → judge.sound → judge.lacks at → ⊥
  pub one : (at at' : ℕ) → judge.lacks at → judge.lacks at' → at ≡ at'

exact_judged : {A : Type 0} (P : List A → A → Type 0) (xs : List A) → IsExact (judged P xs)
exact_judged P xs = record {
  not_both = λ at all first. first.lacks (each_from-rest P [] first.before (first.lacking ∷ first.behind) (subst (EachFrom P []) first.split all)).0;
  one = λ at at' f f'. lacking_one P xs at at' f f';
}

reading_exact : (stored : Stored) (log : LogName) → IsExact (reading_of stored log)
reading_exact stored Config = exact_judged _ stored.config.frames
reading_exact stored Offsets = exact_judged _ stored.offsets.frames
reading_exact stored Status = exact_judged _ stored.status.frames
reading_exact stored Txn = exact_judged _ stored.txn
reading_exact stored Batches = exact_judged _ stored.batches

allowing_exact : (frames : Frames) (log : LogName) → IsExact (allowing_of frames log)
allowing_exact frames Config = exact_judged _ frames.config
allowing_exact frames Offsets = exact_judged _ frames.offsets
allowing_exact frames Status = exact_judged _ frames.status
allowing_exact frames Txn = exact_judged _ frames.txn
allowing_exact frames Batches = exact_judged _ frames.batches

safety_exact : (frames : Frames) (log : LogName) → IsExact (safety_of frames log)
safety_exact frames Config = exact_judged _ frames.config
safety_exact frames Offsets = exact_judged _ frames.offsets
safety_exact frames Status = exact_judged _ frames.status
safety_exact frames Txn = exact_judged _ frames.txn
safety_exact frames Batches = exact_judged _ frames.batches

module _ (judge : LogName → Judgement) (exact : (log : LogName) → IsExact (judge log)) where
  first_of_one : (log log' : LogName) (at at' : ℕ) → IsFirstOf judge log at → IsFirstOf judge log' at' → (log ≡ log') × (at ≡ at')
  first_of_one Config Config at at' f f' = (refl, (exact Config).one at at' f.here f'.here)
  first_of_one Config Offsets at at' f f' = absurd ((exact Config).not_both at f'.earlier.0 f.here)
  first_of_one Config Status at at' f f' = absurd ((exact Config).not_both at f'.earlier.0 f.here)
  first_of_one Config Txn at at' f f' = absurd ((exact Config).not_both at f'.earlier.0 f.here)
  first_of_one Config Batches at at' f f' = absurd ((exact Config).not_both at f'.earlier.0 f.here)
  first_of_one Offsets Config at at' f f' = absurd ((exact Config).not_both at' f.earlier.0 f'.here)
  first_of_one Offsets Offsets at at' f f' = (refl, (exact Offsets).one at at' f.here f'.here)
  first_of_one Offsets Status at at' f f' = absurd ((exact Offsets).not_both at f'.earlier.1.0 f.here)
  first_of_one Offsets Txn at at' f f' = absurd ((exact Offsets).not_both at f'.earlier.1.0 f.here)
  first_of_one Offsets Batches at at' f f' = absurd ((exact Offsets).not_both at f'.earlier.1.0 f.here)
  first_of_one Status Config at at' f f' = absurd ((exact Config).not_both at' f.earlier.0 f'.here)
  first_of_one Status Offsets at at' f f' = absurd ((exact Offsets).not_both at' f.earlier.1.0 f'.here)
  first_of_one Status Status at at' f f' = (refl, (exact Status).one at at' f.here f'.here)
  first_of_one Status Txn at at' f f' = absurd ((exact Status).not_both at f'.earlier.1.1.0 f.here)
  first_of_one Status Batches at at' f f' = absurd ((exact Status).not_both at f'.earlier.1.1.0 f.here)
  first_of_one Txn Config at at' f f' = absurd ((exact Config).not_both at' f.earlier.0 f'.here)
  first_of_one Txn Offsets at at' f f' = absurd ((exact Offsets).not_both at' f.earlier.1.0 f'.here)
  first_of_one Txn Status at at' f f' = absurd ((exact Status).not_both at' f.earlier.1.1.0 f'.here)
  first_of_one Txn Txn at at' f f' = (refl, (exact Txn).one at at' f.here f'.here)
  first_of_one Txn Batches at at' f f' = absurd ((exact Txn).not_both at f'.earlier.1.1.1.0 f.here)
  first_of_one Batches Config at at' f f' = absurd ((exact Config).not_both at' f.earlier.0 f'.here)
  first_of_one Batches Offsets at at' f f' = absurd ((exact Offsets).not_both at' f.earlier.1.0 f'.here)
  first_of_one Batches Status at at' f f' = absurd ((exact Status).not_both at' f.earlier.1.1.0 f'.here)
  first_of_one Batches Txn at at' f f' = absurd ((exact Txn).not_both at' f.earlier.1.1.1.0 f'.here)
  first_of_one Batches Batches at at' f f' = (refl, (exact Batches).one at at' f.here f'.here)

-- ---- the first harm of what is stored

-- which kind of harm it is
data HarmKind (stored : Stored) (log : LogName) (at : ℕ) (harm : Harm) : Type 0 where
  unread : harm ≡ Content → IsFirstOf (reading_of stored) log at → HarmKind stored log at harm
  unallowed : harm ≡ Content → IsFirstNotAllowed stored log at → HarmKind stored log at harm
  unsafe : harm ≡ Unsafe → IsFirstUnsafe stored log at → HarmKind stored log at harm

kind_of_harm : (stored : Stored) (log : LogName) (at : ℕ) (harm : Harm) → IsFirstHarm stored log at harm → HarmKind stored log at harm
kind_of_harm stored log at Magic none = absurd none
kind_of_harm stored log at Version none = absurd none
kind_of_harm stored log at Kind none = absurd none
kind_of_harm stored log at Header none = absurd none
kind_of_harm stored log at SameSide none = absurd none
kind_of_harm stored log at Length none = absurd none
kind_of_harm stored log at Content (inl first) = unread refl first
kind_of_harm stored log at Content (inr first) = unallowed refl first
kind_of_harm stored log at Unsafe first = unsafe refl first

-- one harm of a log, as a whole
abbrev IsOneHarm : (log log' : LogName) (at at' : ℕ) (harm harm' : Harm) → Type 0
IsOneHarm log log' at at' harm harm' = (log ≡ log') × (at ≡ at') × (harm ≡ harm')

module _ (stored : Stored) (log log' : LogName) (at at' : ℕ) (harm harm' : Harm) where
  same_kind : (what : Harm) → harm ≡ what → harm' ≡ what → (log ≡ log') × (at ≡ at') → IsOneHarm log log' at at' harm harm'
  same_kind what is is' one = (one.0, one.1, is ∙ sym is')

  frames_one : (f g : Frames) → AreRead stored f → AreRead stored g → f ≡ g
  frames_one f g = AreRead-one stored f g

  one_by_kinds : HarmKind stored log at harm → HarmKind stored log' at' harm' → IsOneHarm log log' at at' harm harm'
  one_by_kinds (unread is f) (unread is' f') = same_kind Content is is' (first_of_one (reading_of stored) (reading_exact stored) log log' at at' f f')
  one_by_kinds (unread is f) (unallowed is' f') = absurd (reads-all stored f'.frames log at f'.read f.here)
  one_by_kinds (unread is f) (unsafe is' f') = absurd (reads-all stored f'.frames log at f'.read f.here)
  one_by_kinds (unallowed is f) (unread is' f') = absurd (reads-all stored f.frames log' at' f.read f'.here)
  one_by_kinds (unallowed is f) (unallowed is' f') = same_kind Content is is' (first_of_one (allowing_of f.frames) (allowing_exact f.frames) log log' at at' f.first
      (subst (λ (frames : Frames). IsFirstOf (allowing_of frames) log' at') (frames_one f'.frames f.frames f'.read f.read) f'.first))
  one_by_kinds (unallowed is f) (unsafe is' f') =
      absurd (allows-all f'.frames log at f'.allowed (subst (λ (frames : Frames). (allowing_of frames log).lacks at) (frames_one f.frames f'.frames f.read f'.read) f.first.here))
  one_by_kinds (unsafe is f) (unread is' f') = absurd (reads-all stored f.frames log' at' f.read f'.here)
  one_by_kinds (unsafe is f) (unallowed is' f') =
      absurd (allows-all f.frames log' at' f.allowed (subst (λ (frames : Frames). (allowing_of frames log').lacks at') (frames_one f'.frames f.frames f'.read f.read) f'.first.here))
  one_by_kinds (unsafe is f) (unsafe is' f') = same_kind Unsafe is is' (first_of_one (safety_of f.frames) (safety_exact f.frames) log log' at at' f.first
      (subst (λ (frames : Frames). IsFirstOf (safety_of frames) log' at') (frames_one f'.frames f.frames f'.read f.read) f'.first))

  first_harm_one : IsFirstHarm stored log at harm → IsFirstHarm stored log' at' harm' → IsOneHarm log log' at at' harm harm'
  first_harm_one f f' = one_by_kinds (kind_of_harm stored log at harm f) (kind_of_harm stored log' at' harm' f')

-- ---- what the files hold, whatever the numbers of its sides

abbrev stored_on : (config offsets status : ℕ) → Stored → Stored
stored_on config offsets status stored = record stored {
  config = record { frames = stored.config.frames; side = config };
  offsets = record { frames = stored.offsets.frames; side = offsets };
  status = record { frames = stored.status.frames; side = status };
}

module _ (config offsets status : ℕ) (stored : Stored) where
  read_on : (frames : Frames) → AreRead stored frames → AreRead (stored_on config offsets status stored) frames
  read_on frames read = record { config = read.config; offsets = read.offsets; status = read.status; txn = read.txn; batches = read.batches }

  unread_on : (log : LogName) (at : ℕ) → IsFirstOf (reading_of stored) log at → IsFirstOf (reading_of (stored_on config offsets status stored)) log at
  unread_on Config at f = record { earlier = f.earlier; here = f.here }
  unread_on Offsets at f = record { earlier = f.earlier; here = f.here }
  unread_on Status at f = record { earlier = f.earlier; here = f.here }
  unread_on Txn at f = record { earlier = f.earlier; here = f.here }
  unread_on Batches at f = record { earlier = f.earlier; here = f.here }

  harm_on : (log : LogName) (at : ℕ) (harm : Harm) → IsFirstHarm stored log at harm → IsFirstHarm (stored_on config offsets status stored) log at harm
  harm_on log at Magic none = none
  harm_on log at Version none = none
  harm_on log at Kind none = none
  harm_on log at Header none = none
  harm_on log at SameSide none = none
  harm_on log at Length none = none
  harm_on log at Content (inl f) = inl (unread_on log at f)
  harm_on log at Content (inr f) = inr (record { frames = f.frames; read = read_on f.frames f.read; first = f.first })
  harm_on log at Unsafe f = record { frames = f.frames; read = read_on f.frames f.read; allowed = f.allowed; first = f.first }

-- ---- the files

-- a file's greatest side is one
two_greatest : {A : Type 0} (kind : ℕ) (file other : List ℕ) → IsGreatest kind file other → IsGreatest kind other file → A
two_greatest kind file other this that = absurd (omega (arith, behind_low kind this.number that.number other this.behind that.head.side, behind_low kind that.number this.number file that.behind this.head.side))

right_one : (kind : ℕ) (x y : Bool) (a b : List ℕ) → IsRight kind x a b → IsRight kind y a b → x ≡ y
right_one kind true true a b f f' = refl
right_one kind false false a b f f' = refl
right_one kind true false a b f (inl none) = absurd (not_both f.number b none.1 f.head.side)
right_one kind true false a b f (inr f') = two_greatest kind b a f f'
right_one kind false true a b (inl none) f' = absurd (not_both f'.number b none.1 f'.head.side)
right_one kind false true a b (inr f) f' = two_greatest kind a b f f'

chosen_one : (name : LogName) (a b : List ℕ) (at at' : DiskName) → HasChosenSide name a b at → HasChosenSide name a b at' → at ≡ at'
chosen_one name a b at at' f f' = f.disk_is ∙ ap (λ (x : Bool). disk_of name (side_of x)) (right_one (kind_of name) f.on_b f'.on_b a b f.right f'.right) ∙ sym f'.disk_is

-- the disk, the place and the harm
abbrev IsOne : (at at' : DiskName) (place place' : ℕ) (harm harm' : Harm) → Type 0
IsOne at at' place place' harm harm' = (at ≡ at') × (place ≡ place') × (harm ≡ harm')

module _ (files : DiskFiles) where
  disk_one : (log : LogName) (at at' : DiskName) → IsChosenDisk files log at → IsChosenDisk files log at' → at ≡ at'
  disk_one Config at at' f f' = chosen_one Config files.config_a files.config_b at at' f f'
  disk_one Offsets at at' f f' = chosen_one Offsets files.offsets_a files.offsets_b at at' f f'
  disk_one Status at at' f f' = chosen_one Status files.status_a files.status_b at at' f f'
  disk_one Txn at at' f f' = f ∙ sym f'
  disk_one Batches at at' f f' = f ∙ sym f'

  pair_harm_one : (name : LogName) (a b : List ℕ) (at at' : DiskName) (place place' : ℕ) (harm harm' : Harm) → HasPairHarm name a b at place harm → HasPairHarm name a b at' place' harm' → IsOne at at' place place' harm harm'
  pair_harm_one name a b at at' place place' harm harm' f f' =
      let one = one_pair_harm (kind_of name) a b f.side place harm f'.side place' harm' f.harm_is f'.harm_is in
      (f.disk_is ∙ ap (disk_of name) one.0 ∙ sym f'.disk_is, one.1, one.2)

  topic_harm_one : (name : LogName) (file : List ℕ) (at at' : DiskName) (place place' : ℕ) (harm harm' : Harm) → HasTopicHarm name file at place harm → HasTopicHarm name file at' place' harm' → IsOne at at' place place' harm harm'
  topic_harm_one name file at at' place place' harm harm' f f' =
      let one = one_harm (kind_of name) file place place' harm harm' f.harm_is f'.harm_is in
      (f.disk_is ∙ sym f'.disk_is, one.0, one.1)

  file_harm_one : (log : LogName) (at at' : DiskName) (place place' : ℕ) (harm harm' : Harm) → HasFileHarm files log at place harm → HasFileHarm files log at' place' harm' → IsOne at at' place place' harm harm'
  file_harm_one Config = pair_harm_one Config files.config_a files.config_b
  file_harm_one Offsets = pair_harm_one Offsets files.offsets_a files.offsets_b
  file_harm_one Status = pair_harm_one Status files.status_a files.status_b
  file_harm_one Txn = topic_harm_one Txn files.txn
  file_harm_one Batches = topic_harm_one Batches files.batches

  some_harmless : (log : LogName) (at : DiskName) (place : ℕ) (harm : Harm) → StandForSome files log → HasFileHarm files log at place harm → ⊥
  some_harmless Config at place harm stand f = pair_sound (kind_of Config) stand.0 files.config_a files.config_b f.side place harm stand.1 f.harm_is
  some_harmless Offsets at place harm stand f = pair_sound (kind_of Offsets) stand.0 files.offsets_a files.offsets_b f.side place harm stand.1 f.harm_is
  some_harmless Status at place harm stand f = pair_sound (kind_of Status) stand.0 files.status_a files.status_b f.side place harm stand.1 f.harm_is
  some_harmless Txn at place harm stand f = sound (kind_of Txn) stand.0 files.txn place harm stand.1 f.harm_is
  some_harmless Batches at place harm stand f = sound (kind_of Batches) stand.0 files.batches place harm stand.1 f.harm_is

  files_one : (logs : List LogName) (at at' : DiskName) (place place' : ℕ) (harm harm' : Harm) → FirstHarmFrom files logs at place harm → FirstHarmFrom files logs at' place' harm' → IsOne at at' place place' harm harm'
  files_one [] at at' place place' harm harm' f f' = absurd f
  files_one (log ∷ logs) at at' place place' harm harm' (inl f) (inl f') = file_harm_one log at at' place place' harm harm' f f'
  files_one (log ∷ logs) at at' place place' harm harm' (inl f) (inr f') = absurd (some_harmless log at place harm f'.0 f)
  files_one (log ∷ logs) at at' place place' harm harm' (inr f) (inl f') = absurd (some_harmless log at' place' harm' f.0 f')
  files_one (log ∷ logs) at at' place place' harm harm' (inr f) (inr f') = files_one logs at at' place place' harm harm' f.1 f'.1

  stand_of : (stored : Stored) → FilesHold files stored → (log : LogName) → StandForSome files log
  stand_of stored hold Config = (stored.config.frames, hold.config.stands)
  stand_of stored hold Offsets = (stored.offsets.frames, hold.offsets.stands)
  stand_of stored hold Status = (stored.status.frames, hold.status.stands)
  stand_of stored hold Txn = (stored.txn, hold.txn)
  stand_of stored hold Batches = (stored.batches, hold.batches)

  held_harmless : (stored : Stored) → FilesHold files stored → (logs : List LogName) (at : DiskName) (place : ℕ) (harm : Harm) → FirstHarmFrom files logs at place harm → ⊥
  held_harmless stored hold [] at place harm f = f
  held_harmless stored hold (log ∷ logs) at place harm (inl f) = some_harmless log at place harm (stand_of stored hold log) f
  held_harmless stored hold (log ∷ logs) at place harm (inr f) = held_harmless stored hold logs at place harm f.1

  -- what else they hold is the same, but for the numbers of the sides
  held_one : (stored other : Stored) → FilesHold files stored → FilesHold files other → other ≡ stored_on other.config.side other.offsets.side other.status.side stored
  held_one stored other hold also =
      let config : other.config.frames ≡ stored.config.frames = pair_one (kind_of Config) other.config.frames stored.config.frames files.config_a files.config_b also.config.stands hold.config.stands in
      let offsets : other.offsets.frames ≡ stored.offsets.frames = pair_one (kind_of Offsets) other.offsets.frames stored.offsets.frames files.offsets_a files.offsets_b also.offsets.stands hold.offsets.stands in
      let status : other.status.frames ≡ stored.status.frames = pair_one (kind_of Status) other.status.frames stored.status.frames files.status_a files.status_b also.status.stands hold.status.stands in
      let txn : other.txn ≡ stored.txn = stands_for_one (kind_of Txn) other.txn stored.txn files.txn also.txn hold.txn in
      let batches : other.batches ≡ stored.batches = stands_for_one (kind_of Batches) other.batches stored.batches files.batches also.batches hold.batches in
      λ i. record {
        config = record { frames = config i; side = other.config.side };
        offsets = record { frames = offsets i; side = other.offsets.side };
        status = record { frames = status i; side = other.status.side };
        txn = txn i;
        batches = batches i;
      }

  list_on : (config offsets status : ℕ) (stored : Stored) (log : LogName) → list_in log (stored_on config offsets status stored) ≡ list_in log stored
  list_on config offsets status stored Config = refl
  list_on config offsets status stored Offsets = refl
  list_on config offsets status stored Status = refl
  list_on config offsets status stored Txn = refl
  list_on config offsets status stored Batches = refl

  place_one : (bodies : List (List ℕ)) (number place place' : ℕ) → StandsAt bodies number place → StandsAt bodies number place' → place ≡ place'
  place_one bodies number place place' f f' = omega (arith, f, f')

  frames_harm_one : (at at' : DiskName) (place place' : ℕ) (harm harm' : Harm) → HasFrameHarm files at place harm → HasFrameHarm files at' place' harm' → IsOne at at' place place' harm harm'
  frames_harm_one at at' place place' harm harm' f f' =
      let on : Stored = stored_on f'.stored.config.side f'.stored.offsets.side f'.stored.status.side f.stored in
      let same : f'.stored ≡ on = held_one f.stored f'.stored f.hold f'.hold in
      let first : IsFirstHarm on f.log f.number harm = harm_on f'.stored.config.side f'.stored.offsets.side f'.stored.status.side f.stored f.log f.number harm f.first in
      let also : IsFirstHarm on f'.log f'.number harm' = subst (λ (s : Stored). IsFirstHarm s f'.log f'.number harm') same f'.first in
      let one = first_harm_one on f.log f'.log f.number f'.number harm harm' first also in
      let gate : StandsAt (list_in f.log f.stored) f.number place' =
      subst (λ (n : ℕ). StandsAt (list_in f.log f.stored) n place') (sym one.1)
      (subst (λ (l : LogName). StandsAt (list_in l f.stored) f'.number place') (sym one.0)
      (subst (λ (bodies : List (List ℕ)). StandsAt bodies f'.number place') (ap (list_in f'.log) same ∙ list_on f'.stored.config.side f'.stored.offsets.side f'.stored.status.side f.stored f'.log) f'.gate)) in
      (disk_one f.log at at' f.chosen (subst (λ (l : LogName). IsChosenDisk files l at') (sym one.0) f'.chosen), place_one (list_in f.log f.stored) f.number place place' f.gate gate, one.2)

  pub first_harm_is_one : (at at' : DiskName) (place place' : ℕ) (harm harm' : Harm) → HasFirstHarm files at place harm → HasFirstHarm files at' place' harm' → IsOne at at' place place' harm harm'
  first_harm_is_one at at' place place' harm harm' (inl f) (inl f') = files_one all_logs at at' place place' harm harm' f f'
  first_harm_is_one at at' place place' harm harm' (inl f) (inr f') = absurd (held_harmless f'.stored f'.hold all_logs at place harm f)
  first_harm_is_one at at' place place' harm harm' (inr f) (inl f') = absurd (held_harmless f.stored f.hold all_logs at' place' harm' f')
  first_harm_is_one at at' place place' harm harm' (inr f) (inr f') = frames_harm_one at at' place place' harm harm' f f'
