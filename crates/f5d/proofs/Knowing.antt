-- What is known of the records that were passed decides whether the next one is in its turn.
use Rattle.std.proofs.Common.{◌≡◌, ℕ, Bool, true, false, cond, not, ◌&&◌, ltb, List, [], ◌∷◌, ◌++◌, Ordering, Less, Equal, Greater, sym, refl, ap, ◌∙◌, subst, ◌<◌, arith}
use borrow.Author.Tests.{clash}
use Rattle.std.proofs.lemmas.Bool.{and_from, and_parts, le-ltb, lt-ltb}
use Rattle.std.specs.Cmp.{ranks}
use Rattle.std.specs.Cmp.Lexicographic.{slice_cmp}
use Rattle.std.specs.Ordering.{is_lt, MatchOrdering, nat_cmp, ord_max}
use Rattle.vocabulary.specs.declared.codes.code.Code.{Code}
use Rattle.f5d.specs.Bytes.{Lower, lower_agrees, lower_irreflexive, lower_transitive}
use Rattle.f5d.specs.Marking.{marked}
use Rattle.f5d.specs.Passing.{Knows, NoneAbove}
use Rattle.f5d.specs.Records.{apart, every_record, in_turn, Record, same}
use Rattle.f5d.specs.declared.passed.Turns.{Turns}
use Rattle.f5d.proofs.Turns.{every_record-append, in_turn_more, same_true}

-- what comparing says of the order
pub less_lower : (a b : List ℕ) → is_lt (slice_cmp nat_cmp a b) ≡ true → Lower a b
less_lower a b e = by (slice_cmp nat_cmp a b) (lower_agrees a b) e
  where
    by : (o : Ordering) → MatchOrdering o (Lower a b) (a ≡ b) (Lower b a) → is_lt o ≡ true → Lower a b
    by Less h e = h
    by Equal h e = absurd (clash e)
    by Greater h e = absurd (clash e)

pub lt_is_ltb : (a b : ℕ) → is_lt (nat_cmp a b) ≡ ltb a b
lt_is_ltb a b = by (nat_cmp a b) (ranks a b)
  where
    by : (o : Ordering) → MatchOrdering o (a < b) (a ≡ b) (b < a) → is_lt o ≡ ltb a b
    by Less h = sym (lt-ltb a b h)
    by Equal h = sym (le-ltb a b (omega arith))
    by Greater h = sym (le-ltb a b (omega arith))

-- the higher of two codes
pub highest_of : (a b : Code 22) → ((s : List ℕ) → (Lower a.bytes s → ⊥) → Lower (ord_max (λ x y. slice_cmp nat_cmp x.bytes y.bytes) a b).bytes s → ⊥) × (Lower (ord_max (λ x y. slice_cmp nat_cmp x.bytes y.bytes) a b).bytes b.bytes → ⊥)
highest_of a b = by (slice_cmp nat_cmp b.bytes a.bytes) (lower_agrees b.bytes a.bytes)
  where
    by : (o : Ordering) → MatchOrdering o (Lower b.bytes a.bytes) (b.bytes ≡ a.bytes) (Lower a.bytes b.bytes) →
        ((s : List ℕ) → (Lower a.bytes s → ⊥) → Lower (cond (is_lt o) a b).bytes s → ⊥) × (Lower (cond (is_lt o) a b).bytes b.bytes → ⊥)
    by Less h = (λ s n. n, λ l. lower_irreflexive a.bytes (lower_transitive a.bytes b.bytes a.bytes l h))
    by Equal h = (λ s n l. n (subst (λ t. Lower t s) h l), lower_irreflexive b.bytes)
    by Greater h = (λ s n l. n (lower_transitive a.bytes b.bytes s h l), lower_irreflexive b.bytes)

other : (s t : List ℕ) (x : Bool) → same s t ≡ x → (s ≡ t → ⊥) → not x ≡ true
other s t false e differ = refl
other s t true e differ = absurd (differ (same_true s t e))

-- a code above all has no record
pub above_apart : (high s : List ℕ) (done : List Record) → Lower high s → NoneAbove high done → apart s done ≡ true
above_apart high s [] l n = refl
above_apart high s (r ∷ rs) l n =
    and_from (not (same s r.supply)) (apart s rs) (other s r.supply (same s r.supply) refl (λ e. n.0 (subst (Lower high) e l))) (above_apart high s rs l n.1)

-- nor has one whose marks are not all there
pub unmarked_apart : (m : List Bool) (s : List ℕ) (done : List Record) → marked m s ≡ false → every_record (λ r. marked m r.supply) done ≡ true → apart s done ≡ true
unmarked_apart m s [] u e = refl
unmarked_apart m s (r ∷ rs) u e =
    let both = and_parts (marked m r.supply) (every_record (λ q. marked m q.supply) rs) e in
    and_from (not (same s r.supply)) (apart s rs) (other s r.supply (same s r.supply) refl (λ p. clash (sym u ∙ ap (marked m) p ∙ both.0))) (unmarked_apart m s rs u both.1)

none_above_more : (high high' : List ℕ) (done : List Record) (q : Record) → ((s : List ℕ) → (Lower high s → ⊥) → Lower high' s → ⊥) → (Lower high' q.supply → ⊥) → NoneAbove high done → NoneAbove high' (done ++ q ∷ [])
none_above_more high high' [] q up here n = (here, tt)
none_above_more high high' (r ∷ rs) q up here n = (up r.supply n.0, none_above_more high high' rs q up here n.1)

seen_more : (m m' : List Bool) (done : List Record) → ((s : List ℕ) → marked m s ≡ true → marked m' s ≡ true) → every_record (λ r. marked m r.supply) done ≡ true → every_record (λ r. marked m' r.supply) done ≡ true
seen_more m m' [] kept e = refl
seen_more m m' (r ∷ rs) kept e =
    let both = and_parts (marked m r.supply) (every_record (λ q. marked m q.supply) rs) e in
    and_from (marked m' r.supply) (every_record (λ q. marked m' q.supply) rs) (kept r.supply both.0) (seen_more m m' rs kept both.1)

none_above_at : (high : List ℕ) (front : List Record) (q : Record) → NoneAbove high (front ++ q ∷ []) → Lower high q.supply → ⊥
none_above_at high [] q n = n.0
none_above_at high (r ∷ rs) q n = none_above_at high rs q n.1

-- one more record
module _ (t t' : Turns) (done : List Record) (q : Record) (k : Knows t done) (supply : q.supply ≡ t'.last.supply.bytes) (hour : q.hour ≡ t'.last.hour.number) where
  pub knows_more : ((s : List ℕ) → (Lower t.highest.bytes s → ⊥) → Lower t'.highest.bytes s → ⊥) → (Lower t'.highest.bytes q.supply → ⊥) →
      ((s : List ℕ) → marked t.marks.seen s ≡ true → marked t'.marks.seen s ≡ true) → marked t'.marks.seen q.supply ≡ true → Knows t' (done ++ q ∷ [])
  knows_more up here kept noted = record {
    front = done;
    last = q;
    ends = refl;
    supply = supply;
    hour = hour;
    highest = none_above_more t.highest.bytes t'.highest.bytes done q up here k.highest;
    seen = every_record-append (λ r. marked t'.marks.seen r.supply) done (q ∷ [])
        ∙ and_from (every_record (λ r. marked t'.marks.seen r.supply) done) (marked t'.marks.seen q.supply && true) (seen_more t.marks.seen t'.marks.seen done kept k.seen) (and_from (marked t'.marks.seen q.supply) true noted refl);
  }

-- what is known of the last record's supply
module _ (t : Turns) (done : List Record) (k : Knows t done) where
  pub last_not_above : Lower t.highest.bytes t.last.supply.bytes → ⊥
  last_not_above l = none_above_at t.highest.bytes k.front k.last (subst (NoneAbove t.highest.bytes) k.ends k.highest) (subst (Lower t.highest.bytes) (sym k.supply) l)

  pub last_marked : marked t.marks.seen t.last.supply.bytes ≡ true
  last_marked =
      let all = sym (every_record-append (λ r. marked t.marks.seen r.supply) k.front (k.last ∷ [])) ∙ ap (every_record (λ r. marked t.marks.seen r.supply)) (sym k.ends) ∙ k.seen in
      let end = (and_parts (every_record (λ r. marked t.marks.seen r.supply) k.front) (marked t.marks.seen k.last.supply && true) all).1 in
      ap (marked t.marks.seen) (sym k.supply) ∙ (and_parts (marked t.marks.seen k.last.supply) true end).0

  -- whether the next record is in its turn
  pub turn_next : (q : Record) → in_turn done ≡ true → in_turn (done ++ q ∷ []) ≡ cond (same t.last.supply.bytes q.supply) (ltb t.last.hour.number q.hour) (apart q.supply done)
  turn_next q turn =
      ap (λ d. in_turn (d ++ q ∷ [])) k.ends ∙ in_turn_more k.front k.last q (subst (λ d. in_turn d ≡ true) k.ends turn)
      ∙ (λ i. cond (same (k.supply i) q.supply) (ltb (k.hour i) q.hour) (apart q.supply (sym k.ends i)))
