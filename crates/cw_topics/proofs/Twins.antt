-- The two states of the config log, as they change places.
use Rattle.std.proofs.Common.{◌≡◌, ℕ, ◌≤◌, ◌++◌, ◌∷◌, [], List, length, take, drop, arith, refl, sym, ap, ◌∙◌, subst}
use Rattle.std.proofs.lemmas.List.{take-append-drop}
use Rattle.cw_config.specs.declared.records.ConfigRecord.{ConfigRecord}
use Rattle.cw_config.specs.Compaction.{AreAccepted}
use Rattle.cw_topics.specs.Configs.{IsBehind, IsConfigs}
use Rattle.cw_topics.specs.declared.configs.Twin.{Twin}

-- what has been read and what is read now are all records
pub read-on : (records state further : List ConfigRecord) (read : ℕ) → IsBehind records state read →
    further ≡ drop read records → state ++ further ≡ records
read-on records state further read behind is =
    ap (λ (l : List ConfigRecord). l ++ further) behind.reads ∙ ap (λ (l : List ConfigRecord). take read records ++ l) is ∙
    take-append-drop read records

taken-front : (xs ys : List ConfigRecord) → take (length xs) (xs ++ ys) ≡ xs
taken-front [] ys = refl
taken-front (x ∷ xs) ys = ap (λ (l : List ConfigRecord). x ∷ l) (taken-front xs ys)

dropped-front : (xs ys : List ConfigRecord) → drop (length xs) (xs ++ ys) ≡ ys
dropped-front [] ys = refl
dropped-front (x ∷ xs) ys = dropped-front xs ys

-- a state that has read all is behind once there are more
pub left-behind : (records state frame : List ConfigRecord) → state ≡ records → AreAccepted records frame →
    IsBehind (records ++ frame) state (length records)
left-behind records state frame all accepted = record {
  reads = all ∙ sym (taken-front records frame);
  further = subst (λ (l : List ConfigRecord). AreAccepted l (drop (length records) (records ++ frame))) (sym all)
      (subst (λ (l : List ConfigRecord). AreAccepted records l) (sym (dropped-front records frame)) accepted);
}

-- and one that has read all has nothing more to read
pub read-through : (records state : List ConfigRecord) → state ≡ records → IsBehind records state (length records)
read-through records state all = record {
  reads = all ∙ sym (taken-whole records);
  further = subst (λ (l : List ConfigRecord). AreAccepted state l) (sym (dropped-whole records)) tt;
} where
  taken-whole : (xs : List ConfigRecord) → take (length xs) xs ≡ xs
  taken-whole [] = refl
  taken-whole (x ∷ xs) = ap (λ (l : List ConfigRecord). x ∷ l) (taken-whole xs)

  dropped-whole : (xs : List ConfigRecord) → drop (length xs) xs ≡ []
  dropped-whole [] = refl
  dropped-whole (x ∷ xs) = dropped-whole xs

-- there may be room for more
pub more-room : (records state : List ConfigRecord) (room more : ℕ) (twin : Twin) → room ≤ more → IsConfigs records room state twin →
    IsConfigs records more state twin
more-room records state room more twin grows is = record {
  says = is.says;
  reads = is.reads;
  room = λ some. omega (arith, is.room some, grows);
}
