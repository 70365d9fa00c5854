-- Records one after the other: the order of a file with one record more, and the lines of several records.
use Rattle.std.proofs.Common.{◌≡◌, ℕ, ◌*◌, ◌<◌, ◌≤◌, Bool, true, false, cond, not, ◌&&◌, eqb, ltb, ◌⊎◌, List, [], ◌∷◌, ◌++◌, length, sym, refl, ap, ◌∙◌, subst, inl, inr, ⊎_elim, arith}
use Rattle.std.proofs.lemmas.List.{append_assoc, append-nil, length-append}
use Rattle.std.proofs.lemmas.Bool.{and_from, and_parts, cases_Bool, cond-false, cond-true, eq-eqb, eqb-true, not-true, true≢false}
use Rattle.f5d.specs.Records.{apart, can_bear, every_record, follows_on, in_turn, IsLine, Lines, lines_length, none, one_more, Record, same}
use Rattle.f5d.proofs.Lines.{line_least, line_long}

-- ## Whether two texts are the same

pub same_true : (xs ys : List ℕ) → same xs ys ≡ true → xs ≡ ys
same_true [] [] e = refl
same_true [] (y ∷ ys) e = absurd (true≢false (sym e))
same_true (x ∷ xs) [] e = absurd (true≢false (sym e))
same_true (x ∷ xs) (y ∷ ys) e = let p = and_parts (eqb x y) (same xs ys) e in let h = eqb-true x y p.0 in let t = same_true xs ys p.1 in λ i. h i ∷ t i

pub same_itself : (xs : List ℕ) → same xs xs ≡ true
same_itself [] = refl
same_itself (x ∷ xs) = and_from (eqb x x) (same xs xs) (eq-eqb x x refl) (same_itself xs)

pub true_same : (xs ys : List ℕ) → xs ≡ ys → same xs ys ≡ true
true_same xs ys e = subst (λ l. same xs l ≡ true) e (same_itself xs)

-- it does not matter which is first
pub same_turned : (xs ys : List ℕ) → same xs ys ≡ same ys xs
same_turned xs ys = ⊎_elim one (λ n. ⊎_elim (λ o. sym (other o)) (λ m. n ∙ sym m) (cases_Bool (same ys xs))) (cases_Bool (same xs ys))
  where
    one : same xs ys ≡ true → same xs ys ≡ same ys xs
    one e = e ∙ sym (true_same ys xs (sym (same_true xs ys e)))

    other : same ys xs ≡ true → same ys xs ≡ same xs ys
    other e = e ∙ sym (true_same xs ys (sym (same_true ys xs e)))

-- ## Lists with a list behind them

and_grouped : (a b c : Bool) → (a && (b && c)) ≡ (a && b && c)
and_grouped true b c = refl
and_grouped false b c = refl

pub every_record-append : (q : Record → Bool) (rs ss : List Record) → every_record q (rs ++ ss) ≡ (every_record q rs && every_record q ss)
every_record-append q [] ss = refl
every_record-append q (r ∷ rs) ss = ap (λ t. q r && t) (every_record-append q rs ss) ∙ and_grouped (q r) (every_record q rs) (every_record q ss)

pub apart_append : (s : List ℕ) (rs ss : List Record) → apart s (rs ++ ss) ≡ (apart s rs && apart s ss)
apart_append s [] ss = refl
apart_append s (r ∷ rs) ss = ap (λ t. not (same s r.supply) && t) (apart_append s rs ss) ∙ and_grouped (not (same s r.supply)) (apart s rs) (apart s ss)

-- what is in turn is so up to each record
follows_front : (p : Record) (rs ss : List Record) → follows_on p (rs ++ ss) ≡ true → follows_on p rs ≡ true
follows_front p [] ss h = refl
follows_front p (r ∷ rs) ss h = go (same p.supply r.supply) h
  where
    go : (b : Bool) → cond b (ltb p.hour r.hour) (apart p.supply ((r ∷ rs) ++ ss)) ≡ true → cond b (ltb p.hour r.hour) (apart p.supply (r ∷ rs)) ≡ true
    go true e = e
    go false e = (and_parts (apart p.supply (r ∷ rs)) (apart p.supply ss) (sym (apart_append p.supply (r ∷ rs) ss) ∙ e)).0

pub in_turn_front : (rs ss : List Record) → in_turn (rs ++ ss) ≡ true → in_turn rs ≡ true
in_turn_front [] ss h = refl
in_turn_front (r ∷ rs) ss h =
    let p = and_parts (follows_on r (rs ++ ss)) (in_turn (rs ++ ss)) h in
    and_from (follows_on r rs) (in_turn rs) (follows_front r rs ss p.0) (in_turn_front rs ss p.1)

-- ## One record more

and-true : (b : Bool) → (b && true) ≡ b
and-true true = refl
and-true false = refl

and_twice : (a b : Bool) → (a && b) ≡ (a && (a && b))
and_twice true b = refl
and_twice false b = refl

-- r comes behind the records that p goes on with: p is of the supply of the next one, and goes on with r too; or p's supply is over, and r may not take it up
abbrev OneMore : Record → Record → List Record → Type 0
OneMore p r rs =
    ((follows_on p (rs ++ r ∷ []) ≡ true) × (apart r.supply rs ≡ (not (same r.supply p.supply) && apart r.supply rs)))
    ⊎ ((apart p.supply rs ≡ true) × (follows_on p (rs ++ r ∷ []) ≡ not (same p.supply r.supply)))

follows_more : (p r : Record) (rs : List Record) → 0 < length rs → follows_on p rs ≡ true → OneMore p r rs
follows_more p r [] some h = absurd (omega arith)
follows_more p r (n ∷ rs) some h = ⊎_elim on over (cases_Bool (same p.supply n.supply))
  where
    on : same p.supply n.supply ≡ true → OneMore p r (n ∷ rs)
    on e =
        let s = same_true p.supply n.supply e in
        let later : ltb p.hour n.hour ≡ true = sym (cond-true (same p.supply n.supply) (ltb p.hour n.hour) (apart p.supply (n ∷ rs)) e) ∙ h in
        inl (
          cond-true (same p.supply n.supply) (ltb p.hour n.hour) (apart p.supply ((n ∷ rs) ++ r ∷ [])) e ∙ later,
          and_twice (not (same r.supply n.supply)) (apart r.supply rs) ∙ ap (λ t. not (same r.supply t) && apart r.supply (n ∷ rs)) (sym s),
        )

    over : same p.supply n.supply ≡ false → OneMore p r (n ∷ rs)
    over e =
        let away : apart p.supply (n ∷ rs) ≡ true = sym (cond-false (same p.supply n.supply) (ltb p.hour n.hour) (apart p.supply (n ∷ rs)) e) ∙ h in
        inr (
          away,
          cond-false (same p.supply n.supply) (ltb p.hour n.hour) (apart p.supply ((n ∷ rs) ++ r ∷ [])) e
              ∙ apart_append p.supply (n ∷ rs) (r ∷ [])
              ∙ ap (λ t. t && (not (same p.supply r.supply) && true)) away
              ∙ and-true (not (same p.supply r.supply)),
        )

-- r is a later hour of the supply of q, or of a supply that no record has
abbrev pub goes_behind : Record → List Record → Record → Bool
goes_behind q rs r = cond (same q.supply r.supply) (ltb q.hour r.hour) (apart r.supply rs)

in_turn_before : (p q r : Record) (rs : List Record) → (apart p.supply rs ≡ true → same p.supply q.supply ≡ false) → in_turn (rs ++ r ∷ []) ≡ goes_behind q rs r → OneMore p r rs → (follows_on p (rs ++ r ∷ []) && in_turn (rs ++ r ∷ [])) ≡ goes_behind q (p ∷ rs) r
in_turn_before p q r rs last behind (inl k) = (λ i. k.0 i && behind i) ∙ ap (λ t. cond (same q.supply r.supply) (ltb q.hour r.hour) t) k.1
in_turn_before p q r rs last behind (inr k) =
    (λ i. k.1 i && behind i)
    ∙ ap (λ t. not t && goes_behind q rs r) (same_turned p.supply r.supply)
    ∙ go (same q.supply r.supply) (not (same r.supply p.supply)) refl refl
  where
    go : (b c : Bool) → same q.supply r.supply ≡ b → not (same r.supply p.supply) ≡ c → (c && cond b (ltb q.hour r.hour) (apart r.supply rs)) ≡ cond b (ltb q.hour r.hour) (c && apart r.supply rs)
    go true true e f = refl
    go true false e f = absurd (true≢false (sym (ap not (same_turned r.supply p.supply ∙ ap (same p.supply) (sym (same_true q.supply r.supply e)) ∙ last k.0)) ∙ f))
    go false c e f = refl

-- behind records in turn, of which q is the last one, just such a record is in turn
pub in_turn_more : (front : List Record) (q r : Record) → in_turn (front ++ q ∷ []) ≡ true → in_turn ((front ++ q ∷ []) ++ r ∷ []) ≡ cond (same q.supply r.supply) (ltb q.hour r.hour) (apart r.supply (front ++ q ∷ []))
in_turn_more [] q r h = go (same q.supply r.supply) (same_turned r.supply q.supply)
  where
    go : (b : Bool) → same r.supply q.supply ≡ b → (cond b (ltb q.hour r.hour) (not b && true) && true) ≡ cond b (ltb q.hour r.hour) (not (same r.supply q.supply) && true)
    go true e = and-true (ltb q.hour r.hour)
    go false e = ap (λ b. not b && true) (sym e)
in_turn_more (p ∷ front) q r h =
    let rs = front ++ q ∷ [] in
    let parts = and_parts (follows_on p rs) (in_turn rs) h in
    let some : 0 < length rs = omega (arith, length-append front (q ∷ [])) in
    in_turn_before p q r rs
    (λ away. not-true _ (and_parts _ true (and_parts (apart p.supply front) _ (sym (apart_append p.supply front (q ∷ [])) ∙ away)).1).0)
    (in_turn_more front q r parts.1)
    (follows_more p r rs some parts.0)

-- ## The lines of several records

-- the first line, and the others
pub record FirstLine (r : Record) (rs : List Record) (bytes : List ℕ) : Type 0 where
  pub line : List ℕ
  pub more : List ℕ
  pub is_line : IsLine r line
  pub lines : Lines rs more
  pub split : bytes ≡ line ++ more

pub first_line : {r : Record} {rs : List Record} {bytes : List ℕ} → Lines (r ∷ rs) bytes → FirstLine r rs bytes
first_line (one_more {line = line} {bytes = more} l ls) = record { line = line; more = more; is_line = l; lines = ls; split = refl }

pub no_lines : {bytes : List ℕ} → Lines [] bytes → bytes ≡ []
no_lines none = refl

pub lines-append : {rs ss : List Record} {a b : List ℕ} → Lines rs a → Lines ss b → Lines (rs ++ ss) (a ++ b)
lines-append none m = m
lines-append {ss = ss} {b = b} (one_more {r} {rs} {line} {bytes} l ls) m = subst (Lines (r ∷ (rs ++ ss))) (sym (append_assoc line bytes b)) (one_more l (lines-append ls m))

pub one_line_only : {r : Record} {line : List ℕ} → IsLine r line → Lines (r ∷ []) line
one_line_only {r} {line} l = subst (Lines (r ∷ [])) (append-nil line) (one_more l none)

pub lines_push : {rs : List Record} {r : Record} {a b : List ℕ} → Lines rs a → IsLine r b → Lines (rs ++ r ∷ []) (a ++ b)
lines_push m l = lines-append m (one_line_only l)

-- lines are parted where their records are
pub record LinesParted (rs ss : List Record) (bytes : List ℕ) : Type 0 where
  pub front : List ℕ
  pub rest : List ℕ
  pub before : Lines rs front
  pub behind : Lines ss rest
  pub split : bytes ≡ front ++ rest

pub lines_parted : (rs ss : List Record) (bytes : List ℕ) → Lines (rs ++ ss) bytes → LinesParted rs ss bytes
lines_parted [] ss bytes m = record { front = []; rest = bytes; before = none; behind = m; split = refl }
lines_parted (r ∷ rs) ss bytes m =
    let f = first_line m in
    let p = lines_parted rs ss f.more f.lines in
    record { front = f.line ++ p.front; rest = p.rest; before = one_more f.is_line p.before; behind = p.behind; split = f.split ∙ ap (λ t. f.line ++ t) p.split ∙ sym (append_assoc f.line p.front p.rest) }

-- how long they are
pub lines_long : (rs : List Record) (bytes : List ℕ) → every_record can_bear rs ≡ true → Lines rs bytes → length bytes ≡ lines_length rs
lines_long [] bytes b m = ap length (no_lines m)
lines_long (r ∷ rs) bytes b m =
    let p = and_parts (can_bear r) (every_record can_bear rs) b in
    let f = first_line m in
    let l = line_long r f.line p.0 f.is_line in
    let ls = lines_long rs f.more p.1 f.lines in
    ap length f.split ∙ length-append f.line f.more ∙ omega arith

pub lines_least : (rs : List Record) → every_record can_bear rs ≡ true → 56 * length rs ≤ lines_length rs
lines_least [] b = omega arith
lines_least (r ∷ rs) b =
    let p = and_parts (can_bear r) (every_record can_bear rs) b in
    let l = line_least r p.0 in
    let ls = lines_least rs p.1 in
    omega arith
