-- The ledger holds the first so many sealed files: the one after them is granted, and each of them refused.
use Rattle.std.proofs.Common.{◌≡◌, ℕ, zero, suc, ◌<◌, ◌≤◌, Bool, true, false, cond, ◌||◌, eqb, ltb, ◌⊎◌, List, [], ◌∷◌, length, get_or, Some, None, Option, unwrap_or, sym, refl, ap, ◌∙◌, subst, ap₂, inl, inr, arith}
use Rattle.std.proofs.ByRecursion.{All-get_or}
use Rattle.std.proofs.lemmas.Bool.{and_parts, both_ways, cases_order, eq-eqb, le-ltb, not_from_false, not_from_true}
use Rattle.std.proofs.lemmas.Bool.Decides.{nat_tests}
use Rattle.std.specs.Option.{option_map}
use Rattle.f5d.proofs.Files.{holds_read}
use Rattle.f5d.proofs.Names.{name_back}
use Rattle.f5d.proofs.Turns.{same_true}
use Rattle.f5d.proofs.Written.{lines_here}
use Rattle.f5d.specs.Names.{comes_next, is_name, Name, name_text, read_name}
use Rattle.f5d.specs.Reading.{holds, read_file}
use Rattle.f5d.specs.Records.{Lines, Record, same}
use Rattle.outbox.proofs.Names.{not_next_again, not_next_itself}
use Rattle.outbox.specs.Outboxes.{Outbox, SealedFile}
use Rattle.retail.proofs.Loads.{load_granted, load_puts, load_refused}
use Rattle.retail.proofs.Lookups.{covered, covered_le, fits_put_all}
use Rattle.retail.specs.Ledgers.{Ledger, load_answer, loaded, not_next, put_all, record_of}
use Rattle.vocabulary.specs.Answers.{granted, refused}
use Rattle.vocabulary.specs.Refusals.{plain}
use Rattle.exchange.specs.Exchange.{Setting}
use Rattle.exchange.specs.Law.{Fits}
use Rattle.exchange.specs.Told.{is_file, place_of}
use Rattle.exchange.proofs.Curves.{keys, length-keys}
use Rattle.exchange.proofs.Files.{all_names, length-names, next_at, no_file, no_name, rising_sorted, sealed_name, sorted_at, starts_at}
use Rattle.exchange.proofs.Granted.{none_some}
use Rattle.exchange.proofs.Posts.{OutOf}
use Rattle.exchange.proofs.Publications.{in_file, in_file_among, in_file_bears, in_first, loaded_lookup, newest, Pub}

-- ## The file that a load offers

-- a load offers the file at a place: it has its name and its bytes
pub record OffersFile (fs : List SealedFile) (name bytes : List ℕ) (k : ℕ) : Type 0 where
  pub within : k < length fs
  pub named : name_text (get_or fs k no_file).name ≡ name
  pub bytes_too : (get_or fs k no_file).bytes ≡ bytes

pub place_offers : (fs : List SealedFile) (name bytes : List ℕ) (k : ℕ) → place_of fs name bytes ≡ Some k → OffersFile fs name bytes k
place_offers [] name bytes k e = absurd (none_some k e)
place_offers (f ∷ fs) name bytes k e = go (is_file f name bytes) refl (λ j. place_offers fs name bytes j) e
  where
    here : is_file f name bytes ≡ true → (j : ℕ) → Some 0 ≡ Some j → OffersFile (f ∷ fs) name bytes j
    here t zero e =
        let p = and_parts (same (name_text f.name) name) (same f.bytes bytes) t in
        record { within = omega arith; named = same_true (name_text f.name) name p.0; bytes_too = same_true f.bytes bytes p.1 }
    here t (suc j) e = let z : 0 ≡ suc j = ap (λ (o : Option ℕ). unwrap_or o 0) e in absurd (omega arith)

    behind : (o : Option ℕ) → ((j : ℕ) → place_of fs name bytes ≡ Some j → OffersFile fs name bytes j) → place_of fs name bytes ≡ o → (j : ℕ) → option_map suc o ≡ Some j → OffersFile (f ∷ fs) name bytes j
    behind None ih q j e = absurd (none_some j e)
    behind (Some i) ih q zero e = let z : suc i ≡ 0 = ap (λ (o : Option ℕ). unwrap_or o 0) e in absurd (omega arith)
    behind (Some i) ih q (suc j) e =
        let z : suc i ≡ suc j = ap (λ (o : Option ℕ). unwrap_or o 0) e in
        let h = ih j (q ∙ ap {B = Option ℕ} (λ x. Some x) (omega arith)) in
        let l = h.within in
        record { within = omega arith; named = h.named; bytes_too = h.bytes_too }

    go : (b : Bool) → is_file f name bytes ≡ b → ((j : ℕ) → place_of fs name bytes ≡ Some j → OffersFile fs name bytes j) → cond b (Some 0) (option_map suc (place_of fs name bytes)) ≡ Some k → OffersFile (f ∷ fs) name bytes k
    go true t ih e = here t k e
    go false t ih e = behind (place_of fs name bytes) ih refl k e

-- ## How far the ledger is

-- the name that was loaded last, of m files
abbrev pub last_name : List SealedFile → ℕ → Option Name
last_name fs zero = None
last_name fs (suc i) = Some (get_or fs i no_file).name

pub record Loaded (s : Setting) (l : Ledger) (fs : List SealedFile) (ps : List Pub) (off : ℕ → Bool) : Type 0 where
  pub upto : ℕ
  pub within : upto ≤ length fs
  pub told : (j : ℕ) → off j ≡ ltb j upto
  pub last : l.last ≡ last_name fs upto
  pub lookup : (u : List ℕ) (h : ℕ) → record_of u h l.records ≡ record_of u h (newest s (in_first upto) u ps)
  pub places : l.places ≡ s.places
  pub room : length l.records ≤ covered l.records (keys s.terms)

-- an offer in turn is of the next file, or of one before
pub offer_turn : (m k : ℕ) (off : ℕ → Bool) → ((j : ℕ) → off j ≡ ltb j m) → ((j : ℕ) → j < k → off j ≡ true) → (k ≡ m) ⊎ (k < m)
offer_turn m k off t f = go (cases_order k m)
  where
    go : (k ≡ m) ⊎ ((k < m) ⊎ (m < k)) → (k ≡ m) ⊎ (k < m)
    go (inl e) = inl e
    go (inr (inl e)) = inr e
    go (inr (inr e)) = absurd (both_ways (ltb m m) (le-ltb m m (omega arith)) (sym (t m) ∙ f m e))

one_more : (k j : ℕ) → (eqb k j || ltb j k) ≡ ltb j (suc k)
one_more k j = grind (arith, nat_tests)

once_more : (k m j : ℕ) → k < m → (eqb k j || ltb j m) ≡ ltb j m
once_more k m j lt = grind (arith, nat_tests)

module _ (s : Setting) (fit : Fits s) (o : Outbox) (ps : List Pub) (p : OutOf s o ps) where
  within_names : (k : ℕ) → k < length o.sealed → k < length (all_names o.sealed o.open_file)
  within_names k lt = let e = length-names o.sealed o.open_file in omega arith

  next_in_turn : (m : ℕ) → m < length o.sealed → not_next (last_name o.sealed m) (get_or o.sealed m no_file).name ≡ false
  next_in_turn zero lt =
      not_from_true (eqb (get_or o.sealed 0 no_file).name.version 0)
      (eq-eqb (get_or o.sealed 0 no_file).name.version 0
      (ap (λ (n : Name). n.version) (sym (sealed_name o.sealed o.open_file 0 lt)) ∙ starts_at (all_names o.sealed o.open_file) p.posted.starts (within_names 0 lt)))
  next_in_turn (suc i) lt =
      not_from_true (comes_next (get_or o.sealed i no_file).name (get_or o.sealed (suc i) no_file).name)
      (ap₂ comes_next (sym (sealed_name o.sealed o.open_file i (omega arith))) (sym (sealed_name o.sealed o.open_file (suc i) lt))
      ∙ next_at (all_names o.sealed o.open_file) i p.posted.rising (within_names (suc i) lt))

  never_again : (m k : ℕ) → k < m → m ≤ length o.sealed → not_next (last_name o.sealed m) (get_or o.sealed k no_file).name ≡ true
  never_again zero k lt le = absurd (omega arith)
  never_again (suc i) k lt le =
      not_from_false (comes_next (get_or o.sealed i no_file).name (get_or o.sealed k no_file).name)
      (ap₂ comes_next (sym (sealed_name o.sealed o.open_file i (omega arith))) (sym (sealed_name o.sealed o.open_file k (omega arith))) ∙ go (cases_order k i))
    where
      go : (k ≡ i) ⊎ ((k < i) ⊎ (i < k)) → comes_next (get_or (all_names o.sealed o.open_file) i no_name) (get_or (all_names o.sealed o.open_file) k no_name) ≡ false
      go (inl e) =
          ap (λ (j : ℕ). comes_next (get_or (all_names o.sealed o.open_file) i no_name) (get_or (all_names o.sealed o.open_file) j no_name)) e
          ∙ not_next_itself (get_or (all_names o.sealed o.open_file) i no_name)
      go (inr (inl e)) =
          not_next_again (get_or (all_names o.sealed o.open_file) i no_name) (get_or (all_names o.sealed o.open_file) k no_name)
          (sorted_at (all_names o.sealed o.open_file) k i (rising_sorted (all_names o.sealed o.open_file) p.posted.rising) e (within_names i (omega arith)))
      go (inr (inr e)) = absurd (omega arith)

  module _ (name bytes : List ℕ) (k : ℕ) (f : OffersFile o.sealed name bytes k) where
    -- the name and the bytes of a sealed file read back
    reads_name : read_name name ≡ Some (get_or o.sealed k no_file).name
    reads_name =
        ap read_name (sym f.named)
        ∙ name_back (get_or o.sealed k no_file).name
        (subst (λ (n : Name). is_name n ≡ true) (sealed_name o.sealed o.open_file k f.within)
        (All-get_or (λ n. is_name n ≡ true) (all_names o.sealed o.open_file) k no_name (within_names k f.within) p.posted.well))

    reads_file : read_file bytes ≡ holds (in_file k ps)
    reads_file =
        let h = p.sealed k f.within in
        let bear = in_file_bears s k ps p.posted.good in
        holds_read bytes (in_file k ps) (record {
          some = h.1;
          bear = bear;
          turn = p.posted.turn k;
          lines = subst (Lines (in_file k ps)) (sym h.0 ∙ f.bytes_too) (lines_here (in_file k ps) bear);
        })

    module _ (l : Ledger) (off : ℕ → Bool) (h : Loaded s l o.sealed ps off) where
      room_after : length (put_all (in_file k ps) l.records) ≤ covered (put_all (in_file k ps) l.records) (keys s.terms)
      room_after = fits_put_all (in_file k ps) l.records (keys s.terms) (in_file_among s k ps p.posted.good) h.room

      pub first_offer : k ≡ h.upto → load_answer l name bytes ≡ granted
      first_offer e =
          load_granted l name bytes (get_or o.sealed k no_file).name (in_file k ps) reads_name reads_file
          (ap (λ (x : Option Name). not_next x (get_or o.sealed k no_file).name) (h.last ∙ ap (λ (i : ℕ). last_name o.sealed i) (sym e)) ∙ next_in_turn k f.within)
          (let a = room_after in
          let b = covered_le (put_all (in_file k ps) l.records) (keys s.terms) in
          let c = length-keys s.terms in
          let d = fit.places in
          let q = h.places in
          omega arith)

      pub later_offer : k < h.upto → load_answer l name bytes ≡ refused (plain 34)
      later_offer e =
          load_refused l name bytes (get_or o.sealed k no_file).name (in_file k ps) reads_name reads_file
          (ap (λ (x : Option Name). not_next x (get_or o.sealed k no_file).name) h.last ∙ never_again h.upto k e h.within)

      pub first_loads : k ≡ h.upto → Loaded s (loaded l name bytes) o.sealed ps (λ j. eqb k j || off j)
      first_loads e =
          let puts = load_puts l name bytes (get_or o.sealed k no_file).name (in_file k ps) reads_name reads_file in
          record {
            upto = suc k;
            within = f.within;
            told = λ j. ap (λ (b : Bool). eqb k j || b) (h.told j ∙ ap (λ (i : ℕ). ltb j i) (sym e)) ∙ one_more k j;
            last = reads_name;
            lookup = λ u n.
                ap (λ (z : List Record). record_of u n z) puts
                ∙ loaded_lookup s fit k u n l.records ps p.posted.falling p.posted.good (h.lookup u n ∙ ap (λ (i : ℕ). record_of u n (newest s (in_first i) u ps)) (sym e));
            places = h.places;
            room = subst (λ (z : List Record). length z ≤ covered z (keys s.terms)) (sym puts) room_after;
          }

      pub later_loads : k < h.upto → Loaded s l o.sealed ps (λ j. eqb k j || off j)
      later_loads e = record {
        upto = h.upto;
        within = h.within;
        told = λ j. ap (λ (b : Bool). eqb k j || b) (h.told j) ∙ once_more k h.upto j e;
        last = h.last;
        lookup = h.lookup;
        places = h.places;
        room = h.room;
      }
