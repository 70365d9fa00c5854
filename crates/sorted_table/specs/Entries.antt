-- What a table means: its entries in key order, no key twice; and what finding and putting do to it.
use Rattle.std.specs.Prelude.{◌≡◌, ℕ, ◌+◌, ◌<◌, ◌≤◌, List, [], ◌∷◌, length, Ok, Err, Result, ◌≢◌}
use Rattle.std.specs.List.{Contains, AllByRecursion}
use Rattle.vocabulary.specs.declared.refusal.Refusal.{Refusal}
use Rattle.vocabulary.specs.Refusals.{notice, plain}
use Rattle.sorted_table.specs.declared.merge.RunRefused.{RunRefused}
use Rattle.sorted_table.specs.declared.merge.RunRefused.TheVariants.{NotAscending, TooFewPlaces}
use Rattle.sorted_table.specs.declared.place.Place.{Place}

abbrev pub entry : {K V : Type 0} → K → V → Place K V
entry k v = record { key = k; value = v }

-- no value is under the key
abbrev pub Lacks : {K V : Type 0} → List (Place K V) → K → Type 0
Lacks {K} {V} xs k = (v : V) → Contains xs (entry k v) → ⊥

module _ {K V : Type 0} (before : K → K → Type 0) where
  -- each key is before all the keys that follow it, so no key stands twice
  abbrev pub Rising : List (Place K V) → Type 0
  Rising [] = Unit {0}
  Rising (x ∷ xs) = AllByRecursion (λ y. before x.key y.key) xs × Rising xs

  -- the entries ys are the entries xs with v put under k
  pub record Put (xs : List (Place K V)) (k : K) (v : V) (ys : List (Place K V)) : Type 0 where
    pub found : Contains ys (entry k v)
    pub kept : (q : K) (w : V) → (q ≢ k) → Contains xs (entry q w) → Contains ys (entry q w)
    pub no_other : (q : K) (w : V) → (q ≢ k) → Contains ys (entry q w) → Contains xs (entry q w)
    pub rising : Rising ys
    pub same_count : (w : V) → Contains xs (entry k w) → length ys ≡ length xs
    pub one_more : Lacks xs k → length ys ≡ length xs + 1

  -- the entries zs are the entries xs with those of a run put one by one
  pub data Puts : List (Place K V) → List (Place K V) → List (Place K V) → Type 0 where
    none : {xs : List (Place K V)} → Puts xs [] xs
    more : {xs ys zs run : List (Place K V)} {x : Place K V} → Put xs x.key x.value ys → Puts ys run zs → Puts xs (x ∷ run) zs

  -- what putting a run answers, ys being the entries after it: NotAscending tells of the run alone, and
  -- TooFewPlaces that no table of so many places has room for its puts
  abbrev pub RunPut : {T : Type 0} → Result T RunRefused → ℕ → List (Place K V) → List (Place K V) → List (Place K V) → Type 0
  RunPut (Ok _) places xs run ys = Rising run × Puts xs run ys
  RunPut (Err NotAscending) places xs run ys = Rising run → ⊥
  RunPut (Err TooFewPlaces) places xs run ys = Rising run × ((zs : List (Place K V)) → Puts xs run zs → places < length zs)

  -- what putting one entry answers, ys being the entries after it
  abbrev pub OnePut : {T : Type 0} → Result T Refusal → ℕ → List (Place K V) → K → V → List (Place K V) → Type 0
  OnePut (Ok _) places xs k v ys = Put xs k v ys × (length ys ≤ places)
  OnePut (Err e) places xs k v ys = (notice e ≡ plain 35) × Lacks xs k × (length xs ≡ places)
