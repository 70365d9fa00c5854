-- Where a run goes, and what stands there once it is put.
use Rattle.std.proofs.Common.{◌≡◌, ℕ, ◌+◌, ◌-◌, ◌≤◌, List, [], ◌∷◌, ◌++◌, length, take, drop, Ok, Err, Result, sym, ap, ◌∙◌, subst, arith}
use Rattle.std.proofs.lemmas.List.{length-append, length-drop, length-take-le, take-append-drop, take_rest, take-take}
use Rattle.std.specs.List.{AllWithin}
use Rattle.std.proofs.lemmas.Slice.{between_is, take-put_mid}
use borrow.Rule.Slice.PartMut.{put_mid}
use Rattle.sorted_table.specs.declared.merge.RunRefused.{RunRefused}
use Rattle.sorted_table.specs.declared.merge.RunRefused.TheVariants.{NotAscending, TooFewPlaces}
use Rattle.sorted_table.specs.declared.place.Place.{Place}
use Rattle.sorted_table.specs.Orders.{TotalOrder}
use Rattle.sorted_table.specs.Entries.{Puts, Rising, RunPut}
use Rattle.sorted_table.specs.Merged.{Counted, merged, Planned}
use Rattle.sorted_table.proofs.Merging.{merged_front, merged_out, puts_merged}
use Rattle.sorted_table.proofs.Putting.{puts_length}

module _ {K V : Type 0} {before : K → K → Type 0} (order : TotalOrder before) (xs : List (Place K V)) (free : ℕ) (run : List (Place K V)) where
  pub planned_none : run ≡ [] → Planned order xs free run (Ok (length xs, 0))
  planned_none e = (
    omega arith,
    (subst (Rising before) (sym e) tt, omega arith, ap (λ zs. length (merged order (drop (length xs) xs) zs)) e ∙ ap length (merged_out order (drop (length xs) xs)) ∙ omega arith),
    ap (merged order xs) e ∙ merged_out order xs ∙ sym (take-append-drop (length xs) xs)
        ∙ ap (λ zs. take (length xs) xs ++ zs) (sym (ap (merged order (drop (length xs) xs)) e ∙ merged_out order (drop (length xs) xs))),
  )

  module _ (from : ℕ) (first : Place K V) (rest : List (Place K V)) (within : from ≤ length xs) (below : AllWithin (λ x. before x.key first.key) xs 0 from) (is : run ≡ first ∷ rest) where
    stays : merged order xs run ≡ take from xs ++ merged order (drop from xs) run
    stays = ap (merged order xs) is ∙ merged_front order from xs first rest below ∙ ap (λ zs. take from xs ++ merged order (drop from xs) zs) (sym is)

    -- the slice that is counted in is the rest of the entries
    counted_rest : (r : Result ℕ RunRefused) → Counted order (take (length xs - from) (drop from xs)) free run r → Counted order (drop from xs) free run r
    counted_rest r h = subst (λ zs. Counted order zs free run r) (take_rest xs from) h

    pub planned : (n : ℕ) → Counted order (take (length xs - from) (drop from xs)) free run (Ok n) → Planned order xs free run (Ok (from, n))
    planned n h = (within, counted_rest (Ok n) h, stays)

    pub not_planned : (d : RunRefused) → Counted order (take (length xs - from) (drop from xs)) free run (Err d) → Planned order xs free run (Err d)
    not_planned NotAscending h = h
    not_planned TooFewPlaces h =
        let k = counted_rest (Err TooFewPlaces) h in
        (k.0, omega (arith, k.1, ap length stays, length-append (take from xs) (merged order (drop from xs) run), length-take-le from xs within, length-drop from xs))

module _ {K V : Type 0} {before : K → K → Type 0} (order : TotalOrder before) (places : List (Place K V)) (used : ℕ) (in-places : used ≤ length places) (xs : List (Place K V)) (is : xs ≡ take used places) (run : List (Place K V)) where
  xs_length : length xs ≡ used
  xs_length = ap length is ∙ length-take-le used places in-places

  module _ (from new : ℕ) (p : Planned order xs (length places - used) run (Ok (from, new))) where
    from_used : from ≤ used
    from_used = omega (arith, p.0, xs_length)

    area_length : length (take (used + new - from) (drop from places)) ≡ used + new - from
    area_length = length-take-le (used + new - from) (drop from places) (omega (arith, length-drop from places, p.1.1, in-places))

    -- the entries in front of the free places
    area_entries : take (length (take (used + new - from) (drop from places)) - new) (take (used + new - from) (drop from places)) ≡ drop from xs
    area_entries =
        let f = from_used in
        let n : length (take (used + new - from) (drop from places)) - new ≡ used - from = omega (arith, area_length) in
        ap (λ k. take k (take (used + new - from) (drop from places))) n ∙ take-take (used - from) (used + new - from) (drop from places) (omega arith) ∙ between_is places from used ∙ ap (drop from) (sym is)

    merged_count : length (merged order (drop from xs) run) ≡ used + new - from
    merged_count = omega (arith, p.1.2, length-drop from xs, xs_length, from_used)

    pub area_fits : length (merged order (take (length (take (used + new - from) (drop from places)) - new) (take (used + new - from) (drop from places))) run) ≡ length (take (used + new - from) (drop from places))
    area_fits = ap (λ zs. length (merged order zs run)) area_entries ∙ merged_count ∙ sym area_length

    pub all_put : Rising before xs → (area : List (Place K V)) → area ≡ merged order (take (length (take (used + new - from) (drop from places)) - new) (take (used + new - from) (drop from places))) run → Rising before run × Puts before (take used places) run (take (used + new) (put_mid from (used + new - from) places area))
    all_put up area e =
        let f = from_used in
        let put : area ≡ merged order (drop from xs) run = e ∙ ap (λ zs. merged order zs run) area_entries in
        let whole : merged order xs run ≡ take (used + new) (put_mid from (used + new - from) places area) =
        p.2 ∙ ap (λ zs. take from zs ++ merged order (drop from xs) run) is ∙ ap (λ zs. zs ++ merged order (drop from xs) run) (take-take from used places f) ∙ ap (λ zs. take from places ++ zs) (sym put)
        ∙ sym (take-put_mid from (used + new - from) places area (used + new) (omega (arith, ap length put, merged_count)) (omega arith)) in
        (p.1.0, subst (λ zs. Puts before zs run (take (used + new) (put_mid from (used + new - from) places area))) is (subst (Puts before xs run) whole (puts_merged order xs run up p.1.0)))

  pub none_put : (T : Type 0) (d : RunRefused) (ys : List (Place K V)) → Counted order xs (length places - used) run (Err d) → Rising before xs → RunPut before {T = T} (Err d) (length places) (take used places) run ys
  none_put T NotAscending ys p up = p
  none_put T TooFewPlaces ys p up = (p.0, λ zs puts. omega (arith, p.1, puts_length order (puts_merged order xs run up p.0) (subst (λ ws. Puts before ws run zs) (sym is) puts), xs_length))
