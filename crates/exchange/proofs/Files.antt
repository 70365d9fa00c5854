-- The files of an outbox, sealed and open: their names are in turn, and their records are what was published in them.
use Rattle.std.proofs.Common.{◌≡◌, ℕ, zero, suc, ◌+◌, ◌<◌, ◌≤◌, Bool, true, false, cond, ◌&&◌, ◌||◌, ltb, ◌⊎◌, List, [], ◌∷◌, ◌++◌, map, length, get_or, Some, None, Option, sym, refl, ap, ◌∙◌, subst, ap₂, inl, inr, ⊎_elim, append-nil, arith, length-append}
use mathlib.Core.Bool.{or_assoc, or-false}
use lib.ListN.{length-map, get_or-append, get_or-map}
use lib.Seq.{get_or-append_seam}
use Rattle.std.proofs.ByRecursion.{All-append, All-get_or}
use Rattle.std.proofs.lemmas.Bool.{and_left, cases_eq, cases_lt, or_from}
use Rattle.std.specs.List.{AllByRecursion}
use Rattle.book.specs.Books.{some_of}
use Rattle.f5d.specs.Names.{comes_next, is_name, Name}
use Rattle.f5d.specs.Records.{in_turn, Record, same}
use Rattle.f5d.specs.Written.{lines_text}
use Rattle.f5d.specs.declared.name.Word.TheVariants.{F5d}
use Rattle.official_time.specs.Dates.{day_of, on}
use Rattle.outbox.proofs.Files.{flat_more, next_version}
use Rattle.outbox.proofs.Names.{after_differs, Before, before_differs, before_trans, name_itself, next_before}
use Rattle.outbox.proofs.Turns.{turn_more}
use Rattle.outbox.specs.Outboxes.{as_sealed, last_of, OpenFile, records_of, same_name, SealedFile, with_curve}
use Rattle.vocabulary.specs.Codes.{is_participant}
use Rattle.exchange.specs.Exchange.{Setting}
use Rattle.exchange.specs.Told.{name_offered, terms_at}
use Rattle.exchange.proofs.Publications.{all_map, Falling, Good, in_file, in_file_none, in_file_skip, in_file_take, Pub}

abbrev pub no_name : Name
no_name = record { word = F5d; distributor = []; retailer = []; date = on 0 0 0; version = 0 }

abbrev pub no_file : SealedFile
no_file = record { name = no_name; bytes = [] }

abbrev pub names : List SealedFile → List Name
names fs = map (λ f. f.name) fs

abbrev pub open_name : Option OpenFile → List Name
open_name None = []
open_name (Some f) = f.name ∷ []

-- ## Names in turn

abbrev pub Rising : List Name → Type 0
Rising [] = Unit {0}
Rising (m ∷ []) = Unit {0}
Rising (m ∷ n ∷ ns) = (comes_next m n ≡ true) × Rising (n ∷ ns)

abbrev pub Starts : List Name → Type 0
Starts [] = Unit {0}
Starts (n ∷ ns) = n.version ≡ 0

-- n comes next after the last
abbrev pub Follows : List Name → Name → Type 0
Follows [] n = n.version ≡ 0
Follows (m ∷ []) n = comes_next m n ≡ true
Follows (m ∷ k ∷ ns) n = Follows (k ∷ ns) n

abbrev pub Coded : List ℕ → List ℕ → Name → Type 0
Coded d r n = (n.distributor ≡ d) × (n.retailer ≡ r)

rising_more : (ns : List Name) (n : Name) → Rising ns → Follows ns n → Rising (ns ++ n ∷ [])
rising_more [] n r f = tt
rising_more (m ∷ []) n r f = (f, tt)
rising_more (m ∷ k ∷ ns) n r f = (r.0, rising_more (k ∷ ns) n r.1 f)

starts_more : (ns : List Name) (n : Name) → Starts ns → Follows ns n → Starts (ns ++ n ∷ [])
starts_more [] n s f = f
starts_more (m ∷ ns) n s f = s

-- the name that an opened file gets follows the last
pub follows_last : (fs : List SealedFile) (d r : List ℕ) (n : Name) → AllByRecursion (Coded d r) (names fs) → Coded d r n →
    (elim (last_of fs) [ None ↦ false | Some f ↦ ltb (day_of n.date) (day_of f.name.date) ]) ≡ false →
    n.version ≡ (elim (last_of fs) [ None ↦ 0 | Some f ↦ cond (ltb (day_of f.name.date) (day_of n.date)) 0 (f.name.version + 1) ]) →
    Follows (names fs) n
follows_last [] d r n cs c e v = v
follows_last (f ∷ []) d r n cs c e v = next_version f.name n (cs.0.0 ∙ sym c.0) (cs.0.1 ∙ sym c.1) e v
follows_last (f ∷ g ∷ fs) d r n cs c e v = follows_last (g ∷ fs) d r n cs.1 c e v

-- names in turn rise
abbrev pub Sorted : List Name → Type 0
Sorted [] = Unit {0}
Sorted (n ∷ ns) = AllByRecursion (Before n) ns × Sorted ns

pub rising_sorted : (ns : List Name) → Rising ns → Sorted ns
rising_sorted [] r = tt
rising_sorted (n ∷ []) r = (tt, tt)
rising_sorted (n ∷ m ∷ ns) r =
    let ih = rising_sorted (m ∷ ns) r.1 in
    let b = next_before n m r.0 in
    ((b, all_map (Before m) (Before n) (λ k c. before_trans n m k b c) ns ih.0), ih)

pub sorted_at : (ns : List Name) (i j : ℕ) → Sorted ns → i < j → j < length ns → Before (get_or ns i no_name) (get_or ns j no_name)
sorted_at [] i j s lt le = absurd (omega arith)
sorted_at (n ∷ ns) i zero s lt le = absurd (omega arith)
sorted_at (n ∷ ns) zero (suc j) s lt le = All-get_or (Before n) ns j no_name (omega arith) s.0
sorted_at (n ∷ ns) (suc i) (suc j) s lt le = sorted_at ns i j s.1 (omega arith) (omega arith)

pub next_at : (ns : List Name) (i : ℕ) → Rising ns → suc i < length ns → comes_next (get_or ns i no_name) (get_or ns (suc i) no_name) ≡ true
next_at [] i r lt = absurd (omega arith)
next_at (n ∷ []) i r lt = absurd (omega arith)
next_at (n ∷ m ∷ ns) zero r lt = r.0
next_at (n ∷ m ∷ ns) (suc i) r lt = next_at (m ∷ ns) i r.1 (omega arith)

pub starts_at : (ns : List Name) → Starts ns → 0 < length ns → (get_or ns 0 no_name).version ≡ 0
starts_at [] s lt = absurd (omega arith)
starts_at (n ∷ ns) s lt = s

-- ## Which names were offered

-- the same over names alone
abbrev pub offered_name : (ℕ → Bool) → List Name → ℕ → Name → Bool
offered_name off [] i n = false
offered_name off (m ∷ ns) i n = (same_name m n && off i) || offered_name off ns (suc i) n

pub by_name : (off : ℕ → Bool) (fs : List SealedFile) (i : ℕ) (n : Name) → name_offered off fs i n ≡ offered_name off (names fs) i n
by_name off [] i n = refl
by_name off (f ∷ fs) i n = ap (λ (b : Bool). (same_name f.name n && off i) || b) (by_name off fs (suc i) n)

pub offered_append : (off : ℕ → Bool) (ms ns : List Name) (i k : ℕ) (n : Name) → k ≡ i + length ms →
    offered_name off (ms ++ ns) i n ≡ (offered_name off ms i n || offered_name off ns k n)
offered_append off [] ns i k n e = ap (λ (j : ℕ). offered_name off ns j n) (omega arith)
offered_append off (m ∷ ms) ns i k n e =
    ap (λ (b : Bool). (same_name m n && off i) || b) (offered_append off ms ns (suc i) k n (omega arith))
    ∙ sym (or_assoc (same_name m n && off i) (offered_name off ms (suc i) n) (offered_name off ns k n))

none_named : (off : ℕ → Bool) (ns : List Name) (i : ℕ) (n : Name) → AllByRecursion (λ m. same_name m n ≡ false) ns → offered_name off ns i n ≡ false
none_named off [] i n e = refl
none_named off (m ∷ ns) i n e =
    or_from (same_name m n && off i) (offered_name off ns (suc i) n) (and_left (same_name m n) (off i) e.0) (none_named off ns (suc i) n e.1)

-- a name of the list was offered if its place was
pub one_named : (off : ℕ → Bool) (ns : List Name) (i k : ℕ) (n : Name) (j : ℕ) → Sorted ns → j < length ns → k ≡ i + j → get_or ns j no_name ≡ n →
    offered_name off ns i n ≡ off k
one_named off [] i k n j s lt e t = absurd (omega arith)
one_named off (m ∷ ns) i k n zero s lt e t =
    ap₂ ◌||◌ (ap (λ (b : Bool). b && off i) (subst (λ x. same_name m x ≡ true) t (name_itself m)))
    (none_named off ns (suc i) n (all_map (Before m) (λ x. same_name x n ≡ false) (λ x b. after_differs x n (subst (λ y. Before y x) t b)) ns s.0))
    ∙ or-false (off i)
    ∙ ap off (omega arith)
one_named off (m ∷ ns) i k n (suc j) s lt e t =
    let b : Before m n = subst (Before m) t (All-get_or (Before m) ns j no_name (omega arith) s.0) in
    ap (λ (x : Bool). (x && off i) || offered_name off ns (suc i) n) (before_differs m n b)
    ∙ one_named off ns (suc i) k n j s.1 (omega arith) (omega arith) t

-- ## What was published, by the names of the files

abbrev pub Named : List Name → Pub → Type 0
Named ns p = (p.index < length ns) × (get_or ns p.index no_name ≡ p.name)

pub record Posted (s : Setting) (d r : List ℕ) (ns : List Name) (ps : List Pub) : Type 0 where
  pub rising : Rising ns
  pub starts : Starts ns
  pub well : AllByRecursion (λ n. is_name n ≡ true) ns
  pub coded : AllByRecursion (Coded d r) ns
  pub named : AllByRecursion (Named ns) ps
  pub falling : Falling ps
  pub good : AllByRecursion (Good s) ps
  pub turn : (i : ℕ) → in_turn (in_file i ps) ≡ true

length_more : {A : Type 0} (xs : List A) (x : A) → length (xs ++ x ∷ []) ≡ suc (length xs)
length_more xs x = length-append xs (x ∷ []) ∙ omega arith

pub posted_open : (s : Setting) (d r : List ℕ) (ns : List Name) (ps : List Pub) (n : Name) → Posted s d r ns ps → is_name n ≡ true → Coded d r n → Follows ns n →
    Posted s d r (ns ++ n ∷ []) ps
posted_open s d r ns ps n o w c f = record {
  rising = rising_more ns n o.rising f;
  starts = starts_more ns n o.starts f;
  well = All-append (λ n. is_name n ≡ true) ns (n ∷ []) o.well (w, tt);
  coded = All-append (Coded d r) ns (n ∷ []) o.coded (c, tt);
  named = all_map (Named ns) (Named (ns ++ n ∷ []))
      (λ p e. (let l = length_more ns n in let lt = e.0 in omega arith, get_or-append ns (n ∷ []) no_name p.index e.0 ∙ e.1))
      ps o.named;
  falling = o.falling;
  good = o.good;
  turn = o.turn;
}

pub posted_publish : (s : Setting) (d r : List ℕ) (ns : List Name) (ps : List Pub) (p : Pub) → Posted s d r ns ps → suc p.index ≡ length ns → get_or ns p.index no_name ≡ p.name →
    Good s p → some_of (λ q. same q.supply (terms_at s p.book).supply) (in_file p.index ps) ≡ false → Posted s d r ns (p ∷ ps)
posted_publish s d r ns ps p o e n g lacks = record {
  rising = o.rising;
  starts = o.starts;
  well = o.well;
  coded = o.coded;
  named = ((omega arith, n), o.named);
  falling = (all_map (Named ns) (λ q. q.index ≤ p.index) (λ q h. let lt = h.0 in omega arith) ps o.named, o.falling);
  good = (g, o.good);
  turn = λ i. ⊎_elim (λ h. here i h) (λ h. ap in_turn (in_file_skip i p ps h) ∙ o.turn i) (cases_eq p.index i);
}
  where
    here : (i : ℕ) → p.index ≡ i → in_turn (in_file i (p ∷ ps)) ≡ true
    here i h =
        ap in_turn (in_file_take i p ps h)
        ∙ turn_more (in_file i ps) g.whole (subst (λ j. some_of (λ q. same q.supply (terms_at s p.book).supply) (in_file j ps) ≡ false) h lacks) (o.turn i)

-- ## The files of an outbox

-- what an open file holds: the records that were published in it, and some once it has a curve
abbrev pub OpenHolds : Option OpenFile → List Record → Type 0
OpenHolds None rs = Unit {0}
OpenHolds (Some f) rs = (records_of f ≡ rs) × (0 < length f.curves → 0 < length rs)

abbrev pub SealedHolds : SealedFile → List Record → Type 0
SealedHolds f rs = (f.bytes ≡ lines_text rs) × (0 < length rs)

abbrev pub all_names : List SealedFile → Option OpenFile → List Name
all_names fs x = names fs ++ open_name x

pub record Out (s : Setting) (d r : List ℕ) (fs : List SealedFile) (x : Option OpenFile) (ps : List Pub) : Type 0 where
  pub codes : (is_participant d ≡ true) × (is_participant r ≡ true)
  pub posted : Posted s d r (all_names fs x) ps
  pub sealed : (i : ℕ) → i < length fs → SealedHolds (get_or fs i no_file) (in_file i ps)
  pub open_one : OpenHolds x (in_file (length fs) ps)

pub length-names : (fs : List SealedFile) (x : Option OpenFile) → length (all_names fs x) ≡ length fs + length (open_name x)
length-names fs x = length-append (names fs) (open_name x) ∙ ap (λ n. n + length (open_name x)) (length-map fs (λ (f : SealedFile). f.name))

-- the open file's name is behind those of the sealed ones
pub name_last : (fs : List SealedFile) (n : Name) → get_or (names fs ++ n ∷ []) (length fs) no_name ≡ n
name_last fs n = ap (λ i. get_or (names fs ++ n ∷ []) i no_name) (sym (length-map fs (λ (f : SealedFile). f.name))) ∙ get_or-append_seam (names fs) n [] no_name

pub sealed_name : (fs : List SealedFile) (x : Option OpenFile) (i : ℕ) → i < length fs → get_or (all_names fs x) i no_name ≡ (get_or fs i no_file).name
sealed_name fs x i lt =
    get_or-append (names fs) (open_name x) no_name i (let e = length-map fs (λ (f : SealedFile). f.name) in omega arith)
    ∙ get_or-map (λ (f : SealedFile). f.name) fs i no_file

-- an opening
pub out_open : (s : Setting) (d r : List ℕ) (fs : List SealedFile) (ps : List Pub) (n : Name) (room : ℕ) → Out s d r fs None ps → is_name n ≡ true → Coded d r n → Follows (names fs) n →
    Out s d r fs (Some (record { name = n; room = room; curves = [] })) ps
out_open s d r fs ps n room o w c f =
    let e : names fs ++ [] ≡ names fs = append-nil (names fs) in
    let p : Posted s d r (names fs) ps = subst (λ ns. Posted s d r ns ps) e o.posted in
    let l = length-map fs (λ (f : SealedFile). f.name) in
    record {
      codes = o.codes;
      posted = posted_open s d r (names fs) ps n p w c f;
      sealed = o.sealed;
      open_one = (
        sym (in_file_none (length fs) ps (all_map (Named (names fs)) (λ q. q.index < length fs) (λ q h. let lt = h.0 in omega arith) ps p.named)),
        λ no-curve. absurd (omega arith),
      );
    }

-- a publication
pub out_publish : (s : Setting) (d r : List ℕ) (fs : List SealedFile) (f : OpenFile) (ps : List Pub) (p : Pub) → Out s d r fs (Some f) ps → p.index ≡ length fs → f.name ≡ p.name →
    Good s p → 0 < length p.curve → some_of (λ q. same q.supply (terms_at s p.book).supply) (records_of f) ≡ false →
    Out s d r fs (Some (with_curve p.curve f)) (p ∷ ps)
out_publish s d r fs f ps p o i n g some lacks = record {
  codes = o.codes;
  posted =
      posted_publish s d r (all_names fs (Some f)) ps p o.posted
      (let l = length-names fs (Some f) in omega arith)
      (ap (λ j. get_or (names fs ++ f.name ∷ []) j no_name) i ∙ name_last fs f.name ∙ n)
      g
      (subst (λ rs. some_of (λ q. same q.supply (terms_at s p.book).supply) rs ≡ false) (o.open_one.0 ∙ ap (λ j. in_file j ps) (sym i)) lacks);
  sealed = λ j lt. subst (SealedHolds (get_or fs j no_file)) (sym (in_file_skip j p ps (λ e. omega arith))) (o.sealed j lt);
  open_one = (
    flat_more f.curves p.curve ∙ ap (λ (z : List Record). z ++ p.curve) o.open_one.0 ∙ sym here,
    λ _. subst (λ (z : List Record). 0 < length z) (sym here) (let e = length-append (in_file (length fs) ps) p.curve in omega arith),
  );
}
  where
    here : in_file (length fs) (p ∷ ps) ≡ in_file (length fs) ps ++ p.curve
    here = in_file_take (length fs) p ps i

-- a sealing
pub out_seal : (s : Setting) (d r : List ℕ) (fs : List SealedFile) (f : OpenFile) (ps : List Pub) → Out s d r fs (Some f) ps → 0 < length f.curves →
    Out s d r (fs ++ as_sealed f ∷ []) None ps
out_seal s d r fs f ps o some = record {
  codes = o.codes;
  posted = subst (λ ns. Posted s d r ns ps) (sym (append-nil (names (fs ++ as_sealed f ∷ [])) ∙ names_more fs)) o.posted;
  sealed = λ i lt. by i (cases_lt i (length fs)) lt;
  open_one = tt;
}
  where
    names_more : (gs : List SealedFile) → names (gs ++ as_sealed f ∷ []) ≡ names gs ++ f.name ∷ []
    names_more [] = refl
    names_more (g ∷ gs) = ap {B = List Name} (λ ns. g.name ∷ ns) (names_more gs)

    by : (i : ℕ) → (i < length fs) ⊎ (length fs ≤ i) → i < length (fs ++ as_sealed f ∷ []) → SealedHolds (get_or (fs ++ as_sealed f ∷ []) i no_file) (in_file i ps)
    by i (inl a) lt = subst (λ g. SealedHolds g (in_file i ps)) (sym (get_or-append fs (as_sealed f ∷ []) no_file i a)) (o.sealed i a)
    by i (inr a) lt =
        let l = length_more fs (as_sealed f) in
        let e : i ≡ length fs = omega arith in
        subst (λ j. SealedHolds (get_or (fs ++ as_sealed f ∷ []) j no_file) (in_file j ps)) (sym e)
        (subst (λ g. SealedHolds g (in_file (length fs) ps)) (sym (get_or-append_seam fs (as_sealed f) [] no_file)) (ap lines_text o.open_one.0, o.open_one.1 some))
