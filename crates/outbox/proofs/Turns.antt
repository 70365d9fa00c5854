-- A file of whole curves, no supply twice, is in turn.
use Rattle.std.proofs.Common.{◌≡◌, ℕ, suc, Bool, true, false, cond, not, ltb, List, [], ◌∷◌, ◌++◌, length, sym, refl, ap, ◌∙◌, arith}
use Rattle.std.proofs.lemmas.Bool.{and_from, and_parts, cond-false, cond-true, lt-ltb, not_from_false, or_parts}
use Rattle.book.specs.BookLaw.{done, more, Whole}
use Rattle.book.specs.Books.{some_of}
use Rattle.f5d.proofs.Turns.{apart_append, true_same}
use Rattle.f5d.specs.Records.{apart, follows_on, in_turn, Record, same}

pub whole_length : {u : List ℕ} {h n : ℕ} {c : List Record} → Whole u h n c → length c ≡ n
whole_length done = refl
whole_length (more d e w) = ap suc (whole_length w)

-- the records of a curve follow one another
pub whole_turn : {u : List ℕ} {h n : ℕ} {c : List Record} → Whole u h n c → in_turn c ≡ true
whole_turn done = refl
whole_turn (more d e done) = refl
whole_turn (more {r = r} d e (more {r = q} {rs = rs} f g w)) =
    and_from (follows_on r (q ∷ rs)) (in_turn (q ∷ rs))
    (cond-true (same r.supply q.supply) (ltb r.hour q.hour) (apart r.supply (q ∷ rs)) (true_same r.supply q.supply (d ∙ sym f))
    ∙ lt-ltb r.hour q.hour (omega arith))
    (whole_turn (more {r = q} {rs = rs} f g w))

-- a curve of one supply is apart from every other
pub whole_apart : {u : List ℕ} {h n : ℕ} {c : List Record} (v : List ℕ) → Whole u h n c → same v u ≡ false → apart v c ≡ true
whole_apart v done e = refl
whole_apart v (more {r = r} {rs = rs} d f w) e =
    and_from (not (same v r.supply)) (apart v rs) (not_from_false (same v r.supply) (ap (same v) d ∙ e)) (whole_apart v w e)

abbrev Lacks : List ℕ → List Record → Type 0
Lacks u rs = some_of (λ r. same r.supply u) rs ≡ false

-- what follows a record, with a curve of another supply behind
follows_more : {u : List ℕ} {h n : ℕ} {c : List Record} (r : Record) (rs : List Record) → Whole u h n c → same r.supply u ≡ false → follows_on r rs ≡ true → follows_on r (rs ++ c) ≡ true
follows_more r [] done e f = refl
follows_more {u} r [] (more {r = q} {rs = qs} d g w) e f =
    cond-false (same r.supply q.supply) (ltb r.hour q.hour) (apart r.supply (q ∷ qs)) (ap (same r.supply) d ∙ e)
    ∙ whole_apart r.supply (more {r = q} {rs = qs} d g w) e
follows_more {c = c} r (q ∷ rs) w e f = go (same r.supply q.supply) f
  where
    go : (b : Bool) → cond b (ltb r.hour q.hour) (apart r.supply (q ∷ rs)) ≡ true → cond b (ltb r.hour q.hour) (apart r.supply (q ∷ (rs ++ c))) ≡ true
    go true x = x
    go false x = apart_append r.supply (q ∷ rs) c ∙ and_from (apart r.supply (q ∷ rs)) (apart r.supply c) x (whole_apart r.supply w e)

pub turn_more : {u : List ℕ} {h n : ℕ} {c : List Record} (rs : List Record) → Whole u h n c → Lacks u rs → in_turn rs ≡ true → in_turn (rs ++ c) ≡ true
turn_more [] w e t = whole_turn w
turn_more {u} {c = c} (r ∷ rs) w e t =
    let p = or_parts (same r.supply u) (some_of (λ r. same r.supply u) rs) e in
    let q = and_parts (follows_on r rs) (in_turn rs) t in
    and_from (follows_on r (rs ++ c)) (in_turn (rs ++ c)) (follows_more r rs w p.0 q.0) (turn_more rs w p.1 q.1)
