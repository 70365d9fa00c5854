-- Going through entries and a run together: counting, and merging within one area.
use Rattle.std.proofs.Common.{◌≡◌, ℕ, suc, ◌+◌, ◌-◌, ◌<◌, ◌≤◌, List, [], ◌∷◌, ◌++◌, length, get_or, take, drop, set, Some, None, Option, MatchOption, SomeIff, ok_or, Ok, Err, Result, MatchResult, Less, Equal, Greater, sym, refl, ap, ◌∙◌, subst, append_assoc, arith}
use Rattle.std.proofs.lemmas.List.{drop-set-lt, length-set, length-drop, take_more_set, take-append-drop}
use Rattle.sorted_table.specs.Orders.{TotalOrder}
use Rattle.sorted_table.specs.Entries.{Rising}
use Rattle.sorted_table.specs.Merged.{Counted, merged}
use Rattle.sorted_table.specs.Searched.{Stands}
use Rattle.sorted_table.specs.declared.merge.RunRefused.{RunRefused}
use Rattle.sorted_table.specs.declared.merge.RunRefused.TheVariants.{TooFewPlaces}
use Rattle.sorted_table.specs.declared.place.Place.{Place}
use Rattle.sorted_table.proofs.Entries.{all_behind}
use Rattle.sorted_table.proofs.Merging.{merged_out}
use Rattle.sorted_table.proofs.Steps.{at_equal, at_greater, at_less, merged_length, merged_some}

-- `write` entries are written, those from `read` on are left to merge with a run, and all in all it gives `goal`
pub record Underway {K V : Type 0} {before : K → K → Type 0} (order : TotalOrder before) (goal area : List (Place K V)) (write read : ℕ) (run : List (Place K V)) : Type 0 where
  pub outcome : take write area ++ merged order (drop read area) run ≡ goal
  pub gap : write ≤ read
  pub within : read ≤ length area
  pub room : write + length (merged order (drop read area) run) ≡ length area

module _ {K V : Type 0} {before : K → K → Type 0} (order : TotalOrder before) (goal area : List (Place K V)) (write read : ℕ) where
  -- one entry more is written, where `read` has moved on far enough
  written : (x : Place K V) (later : ℕ) (before-it run : List (Place K V)) → before-it ≡ x ∷ merged order (drop later area) run → take write area ++ before-it ≡ goal → write < later → later ≤ length area → write + length before-it ≡ length area → Underway order goal (set area write x) (write + 1) later run
  written x later all run e outcome ahead within room =
      let same : drop later (set area write x) ≡ drop later area = drop-set-lt later area write x ahead in
      record {
        outcome =
            ap (λ zs. zs ++ merged order (drop later (set area write x)) run) (take_more_set area write x (omega arith))
            ∙ append_assoc (take write area) (x ∷ []) (merged order (drop later (set area write x)) run)
            ∙ ap (λ zs. take write area ++ (x ∷ merged order zs run)) same
            ∙ ap (λ zs. take write area ++ zs) (sym e)
            ∙ outcome;
        gap = omega arith;
        within = omega (arith, length-set area write x);
        room = omega (arith, length-set area write x, ap length e, ap (λ zs. length (merged order zs run)) same);
      }

  module _ (y : Place K V) (ys : List (Place K V)) (u : Underway order goal area write read (y ∷ ys)) where
    pub in_area : write < length area
    in_area = omega (arith, u.room, merged_some order (drop read area) y ys)

    pub after_less : (x : Place K V) → x ≡ get_or area read x → Stands before (drop read area) y.key Less → Underway order goal (set area write x) (write + 1) (read + 1) (y ∷ ys)
    after_less x e s =
        let a = at_less order area read x y ys s in
        written x (read + 1) (merged order (drop read area) (y ∷ ys)) (y ∷ ys) (a.1 ∙ ap (λ z. z ∷ merged order (drop (read + 1) area) (y ∷ ys)) (sym e)) u.outcome (omega (arith, u.gap)) (omega (arith, a.0)) u.room

    pub after_equal : Stands before (drop read area) y.key Equal → Underway order goal (set area write y) (write + 1) (read + 1) ys
    after_equal s =
        let a = at_equal order area read y ys s in
        written y (read + 1) (merged order (drop read area) (y ∷ ys)) ys a.1 u.outcome (omega (arith, u.gap)) (omega (arith, a.0)) u.room

    pub after_greater : Stands before (drop read area) y.key Greater → Underway order goal (set area write y) (write + 1) read ys
    after_greater s =
        let a = at_greater order (drop read area) y ys s in
        written y read (merged order (drop read area) (y ∷ ys)) ys a u.outcome (omega (arith, u.room, u.within, ap length a, merged_length order (drop read area) ys, length-drop read area)) u.within u.room

  pub finished : Underway order goal area write read [] → area ≡ goal
  finished u =
      let e = merged_out order (drop read area) in
      let w : write ≡ read = omega (arith, u.room, u.within, ap length e, length-drop read area) in
      sym (take-append-drop read area) ∙ ap (λ n. take n area ++ drop read area) (sym w) ∙ ap (λ zs. take write area ++ zs) (sym e) ∙ u.outcome

pub nothing : {K V : Type 0} {before : K → K → Type 0} (order : TotalOrder before) (area : List (Place K V)) (gap : ℕ) (run : List (Place K V)) → gap ≤ length area → length (merged order (drop gap area) run) ≡ length area → run ≡ [] → area ≡ merged order (drop gap area) run
nothing order area gap run within fits e =
    finished order (merged order (drop gap area) run) area 0 gap
    (subst (Underway order (merged order (drop gap area) run) area 0 gap) e record { outcome = refl; gap = omega arith; within = within; room = omega arith })

-- `gone` entries are counted or left to merge, which gives `total`: so many of the free places are left; none where there are too few
abbrev Balance : Option ℕ → ℕ → ℕ → ℕ → Type 0
Balance left gone free total = MatchOption left (gone + free < total) (λ n. (n ≤ free) × (gone + free ≡ total + n))

-- the entries up to `at` and a part of a run are gone through, and `run` is left
pub record Tally {K V : Type 0} {before : K → K → Type 0} (order : TotalOrder before) (xs all : List (Place K V)) (free at : ℕ) (left : Option ℕ) (run : List (Place K V)) : Type 0 where
  pub within : at ≤ length xs
  pub counted : Balance left (length (merged order (drop at xs) run) + at) free (length (merged order xs all))

-- the whole run ascends exactly where the rest of it does
pub record Ascending {K V : Type 0} (before : K → K → Type 0) (all run : List (Place K V)) : Type 0 where
  pub to : Rising before run → Rising before all
  pub back : Rising before all → Rising before run

-- one place fewer is left
one_fewer : (left left' : Option ℕ) (gone free total : ℕ) → Balance left (suc gone) free total → MatchOption left (left' ≡ None) (λ n. SomeIff left' (1 ≤ n) (n - 1)) → Balance left' gone free total
one_fewer None left' gone free total h e = subst (λ l. Balance l gone free total) (sym e) (omega arith)
one_fewer (Some n) None gone free total h e = omega arith
one_fewer (Some n) (Some m) gone free total h e = (omega arith, omega arith)

moved : (left : Option ℕ) (gone gone' free total : ℕ) → Balance left gone free total → gone ≡ gone' → Balance left gone' free total
moved left gone gone' free total h e = subst (λ n. Balance left n free total) e h

module _ {K V : Type 0} {before : K → K → Type 0} (order : TotalOrder before) (xs all : List (Place K V)) (free at : ℕ) (left : Option ℕ) (y : Place K V) (ys : List (Place K V)) (t : Tally order xs all free at left (y ∷ ys)) where
  pub tally_less : Stands before (drop at xs) y.key Less → Tally order xs all free (at + 1) left (y ∷ ys)
  tally_less s =
      let a = at_less order xs at y y ys s in
      record { within = omega (arith, a.0); counted = moved left _ _ free _ t.counted (omega (arith, ap length a.1)) }

  pub tally_equal : Stands before (drop at xs) y.key Equal → Tally order xs all free (at + 1) left ys
  tally_equal s =
      let a = at_equal order xs at y ys s in
      record { within = omega (arith, a.0); counted = moved left _ _ free _ t.counted (omega (arith, ap length a.1)) }

  pub tally_new : (left' : Option ℕ) → Stands before (drop at xs) y.key Greater → MatchOption left (left' ≡ None) (λ n. SomeIff left' (1 ≤ n) (n - 1)) → Tally order xs all free at left' ys
  tally_new left' s e = record { within = t.within; counted = one_fewer left left' _ free _ (moved left _ _ free _ t.counted (omega (arith, ap length (at_greater order (drop at xs) y ys s)))) e }

pub ascending_all : {K V : Type 0} {before : K → K → Type 0} (y : Place K V) (run all : List (Place K V)) → Ascending before all (y ∷ run) → run ≡ [] → Rising before all
ascending_all {before = before} y run all a e = a.to (subst (λ zs. Rising before (y ∷ zs)) (sym e) (tt, tt))

module _ {K V : Type 0} {before : K → K → Type 0} (order : TotalOrder before) (y z : Place K V) (zs all : List (Place K V)) where
  pub ascending_more : before y.key z.key → Ascending before all (y ∷ z ∷ zs) → Ascending before all (z ∷ zs)
  ascending_more b a = record { to = λ up. a.to ((b, all_behind order y.key z.key zs b up.0), up); back = λ up. (a.back up).1 }

module _ {K V : Type 0} {before : K → K → Type 0} (order : TotalOrder before) (xs : List (Place K V)) (free : ℕ) (all : List (Place K V)) where
  pub counted_none : all ≡ [] → Counted order xs free all (Ok 0)
  counted_none e = (subst (Rising before) (sym e) tt, omega arith, ap (λ run. length (merged order xs run)) e ∙ ap length (merged_out order xs) ∙ omega arith)

  module _ (at : ℕ) (run : List (Place K V)) (none : run ≡ []) (up : Rising before all) where
    left_over : length (merged order (drop at xs) run) ≡ length xs - at
    left_over = ap (λ zs. length (merged order (drop at xs) zs)) none ∙ ap length (merged_out order (drop at xs)) ∙ length-drop at xs

    pub answered : (left : Option ℕ) (r : Result ℕ RunRefused) → r ≡ ok_or left TooFewPlaces → Tally order xs all free at left run → MatchResult r (λ n. Counted order xs free all (Ok (free - n))) (λ d. Counted order xs free all (Err d))
    answered None r e t = rw e (up, omega (arith, left_over, t.within, t.counted))
    answered (Some n) r e t = rw e (up, omega arith, omega (arith, left_over, t.within, t.counted))
