-- What a script may look at: what a worker holds, its id as a member of the group, and the committed records of a
-- topic. Kafka's groups have ids of members, too; how one is made here, and the texts, are this project's own.
use Rattle.std.specs.Prelude.{ℕ, List, [], ◌∷◌, ◌++◌, Option, Some, None, map, take, codes, decimal}
use Rattle.std.specs.List.{join_with_byte}
use Rattle.sha1.specs.Sha1.{sha1}
use Rattle.uuid.specs.declared.Variant.TheVariants.{RFC4122}
use Rattle.uuid.specs.declared.Version.TheVariants.{Sha1}
use Rattle.uuid.specs.Parts.{zero_bytes, with_variant, with_version}
use Rattle.uuid.specs.Text.{lower, hyphenated_text}
use Rattle.cw_group.specs.declared.member.Member.{Member}
use Rattle.cw_group.specs.Members.{member_of}
use Rattle.cw_data.specs.Log.{taken}
use Rattle.cw_model.specs.State.{Cluster}
use Rattle.cw_model.specs.Lookups.{held}
use Rattle.cw_model.specs.TickText.{item_text}
use Rattle.cw_run.specs.Answers.{worker_words}

-- the items that a worker holds
abbrev pub held_words : ℕ → Cluster → List (List ℕ)
held_words w s = worker_words (codes "held") w ++ map item_text (held w s)

-- the UUID of a name: version 5 (RFC 9562), in the namespace of zeros
unfoldable pub uuid_of : List ℕ → List ℕ
uuid_of name = with_version (with_variant (take 16 (sha1 (zero_bytes ++ name))) RFC4122) Sha1

-- the name that a member's id is made of: `GROUP/W/INCARNATION`
abbrev pub member_name : (group : List ℕ) → ℕ → (incarnation : ℕ) → List ℕ
member_name group w incarnation = join_with_byte 47 (group ∷ decimal w ∷ decimal incarnation ∷ [])

-- the id of the member that a worker is, where the group knows it
abbrev pub id_words : (group : List ℕ) → ℕ → Option Member → List (List ℕ)
id_words group w None = worker_words (codes "none") w
id_words group w (Some m) = worker_words (codes "member") w ++
    hyphenated_text lower (uuid_of (member_name group w m.incarnation)) ∷ []

abbrev pub member_words : (group : List ℕ) → ℕ → Cluster → List (List ℕ)
member_words group w s = id_words group w (member_of w s.group.members)

-- a record with its offset
abbrev pub record_words : Option (ℕ × List ℕ) → List (List ℕ)
record_words None = codes "none" ∷ []
record_words (Some found) = codes "record" ∷ decimal found.0 ∷ found.1 ∷ []

-- the first committed record of a topic from an offset on, below the last stable offset
abbrev pub taken_words : (topic : List ℕ) → (from : ℕ) → Cluster → List (List ℕ)
taken_words topic from s = record_words (taken topic from s.batches)
