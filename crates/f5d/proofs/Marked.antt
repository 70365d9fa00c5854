-- Marks that are left stay.
use Rattle.std.proofs.Common.{◌≡◌, ℕ, zero, suc, Bool, true, false, ◌&&◌, List, [], ◌∷◌, get_or, set, refl}
use Rattle.std.proofs.lemmas.Bool.{and_from, and_parts}
use Rattle.f5d.specs.Marking.{all_marked, place}

mark_kept : (m : List Bool) (i j : ℕ) → get_or m j false ≡ true → get_or (set m i true) j false ≡ true
mark_kept [] i j e = e
mark_kept (b ∷ m) zero zero e = refl
mark_kept (b ∷ m) zero (suc j) e = e
mark_kept (b ∷ m) (suc i) zero e = e
mark_kept (b ∷ m) (suc i) (suc j) e = mark_kept m i j e

-- the four marks of a number
pub record Four (m : List Bool) (n : ℕ) : Type 0 where
  pub first : get_or m (place n 1) false ≡ true
  pub second : get_or m (place n 65536) false ≡ true
  pub third : get_or m (place n 4294967296) false ≡ true
  pub fourth : get_or m (place n 281474976710656) false ≡ true

pub four : (m : List Bool) (n : ℕ) → all_marked m n ≡ true → Four m n
four m n e =
    let a = get_or m (place n 1) false in
    let b = get_or m (place n 65536) false in
    let c = get_or m (place n 4294967296) false in
    let d = get_or m (place n 281474976710656) false in
    let abc = and_parts (a && b && c) d e in
    let ab = and_parts (a && b) c abc.0 in
    let both = and_parts a b ab.0 in
    record { first = both.0; second = both.1; third = ab.1; fourth = abc.1 }

pub from_four : (m : List Bool) (n : ℕ) → Four m n → all_marked m n ≡ true
from_four m n f =
    let a = get_or m (place n 1) false in
    let b = get_or m (place n 65536) false in
    let c = get_or m (place n 4294967296) false in
    let d = get_or m (place n 281474976710656) false in
    and_from (a && b && c) d (and_from (a && b) c (and_from a b f.first f.second) f.third) f.fourth

pub all_kept : (m : List Bool) (i n : ℕ) → all_marked m n ≡ true → all_marked (set m i true) n ≡ true
all_kept m i n e =
    let f = four m n e in
    from_four (set m i true) n (record { first = mark_kept m i (place n 1) f.first; second = mark_kept m i (place n 65536) f.second; third = mark_kept m i (place n 4294967296) f.third; fourth = mark_kept m i (place n 281474976710656) f.fourth })
