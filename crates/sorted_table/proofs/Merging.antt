-- Merging a run into entries puts the run's entries one by one.
use Rattle.std.proofs.Common.{◌≡◌, ℕ, zero, suc, ◌⊎◌, List, [], ◌∷◌, ◌++◌, take, drop, sym, refl, ap, ◌∙◌, subst, inl, inr, ⊎_elim, arith}
use Rattle.std.specs.List.{AllByRecursion, AllWithin, Contains}
use Rattle.sorted_table.specs.Orders.{TotalOrder}
use Rattle.sorted_table.specs.Entries.{entry, Rising, Put, Puts}
use Rattle.sorted_table.specs.Merged.{among, merged}
use Rattle.sorted_table.specs.declared.place.Place.{Place}
use Rattle.sorted_table.proofs.Entries.{has_here, has_there, has_cases, has_none, all_has, all_behind, asymmetric, by_order, not_itself}

module _ {K V : Type 0} {before : K → K → Type 0} (order : TotalOrder before) where
  -- ## one step

  pub merged_out : (xs : List (Place K V)) → merged order xs [] ≡ xs
  unfolding merged among
  merged_out [] = refl
  merged_out (x ∷ xs) = refl

  pub merged_none : (run : List (Place K V)) → merged order [] run ≡ run
  unfolding merged
  merged_none run = refl

  module _ (x : Place K V) (xs : List (Place K V)) (y : Place K V) (ys : List (Place K V)) where
    abbrev picked : before x.key y.key ⊎ ((x.key ≡ y.key) ⊎ before y.key x.key) → List (Place K V)
    picked (inl b) = x ∷ merged order xs (y ∷ ys)
    picked (inr (inl e)) = y ∷ merged order xs ys
    picked (inr (inr b)) = y ∷ merged order (x ∷ xs) ys

    is_picked : merged order (x ∷ xs) (y ∷ ys) ≡ picked (order.total x.key y.key)
    unfolding merged among
    is_picked = elim (order.total x.key y.key) as (λ t. elim t [ inl b ↦ x ∷ merged order xs (y ∷ ys) | inr o ↦ elim o [ inl e ↦ y ∷ merged order xs ys | inr b ↦ y ∷ among order x xs (merged order xs) ys ] ] ≡ picked t) [ inl b ↦ refl | inr o ↦ elim o [ inl e ↦ refl | inr b ↦ refl ] ]

    pub merged_old : before x.key y.key → merged order (x ∷ xs) (y ∷ ys) ≡ x ∷ merged order xs (y ∷ ys)
    merged_old b = is_picked ∙ go (order.total x.key y.key)
      where
        go : (t : before x.key y.key ⊎ ((x.key ≡ y.key) ⊎ before y.key x.key)) → picked t ≡ x ∷ merged order xs (y ∷ ys)
        go (inl c) = refl
        go (inr (inl e)) = absurd (not_itself order x.key y.key b e)
        go (inr (inr c)) = absurd (asymmetric order x.key y.key b c)

    pub merged_both : x.key ≡ y.key → merged order (x ∷ xs) (y ∷ ys) ≡ y ∷ merged order xs ys
    merged_both b = is_picked ∙ go (order.total x.key y.key)
      where
        go : (t : before x.key y.key ⊎ ((x.key ≡ y.key) ⊎ before y.key x.key)) → picked t ≡ y ∷ merged order xs ys
        go (inl c) = absurd (not_itself order x.key y.key c b)
        go (inr (inl e)) = refl
        go (inr (inr c)) = absurd (not_itself order y.key x.key c (sym b))

    pub merged_new : before y.key x.key → merged order (x ∷ xs) (y ∷ ys) ≡ y ∷ merged order (x ∷ xs) ys
    merged_new b = is_picked ∙ go (order.total x.key y.key)
      where
        go : (t : before x.key y.key ⊎ ((x.key ≡ y.key) ⊎ before y.key x.key)) → picked t ≡ y ∷ merged order (x ∷ xs) ys
        go (inl c) = absurd (asymmetric order x.key y.key c b)
        go (inr (inl e)) = absurd (not_itself order y.key x.key b (sym e))
        go (inr (inr c)) = refl

  -- ## the whole

  -- what is before the whole run stays in front
  pub merged_front : (n : ℕ) (xs : List (Place K V)) (y : Place K V) (ys : List (Place K V)) → AllWithin (λ x. before x.key y.key) xs 0 n → merged order xs (y ∷ ys) ≡ take n xs ++ merged order (drop n xs) (y ∷ ys)
  merged_front zero xs y ys a = refl
  merged_front (suc n) [] y ys a = refl
  merged_front (suc n) (x ∷ xs) y ys a = merged_old x xs y ys (a 0 x (omega arith) (omega arith)) ∙ ap (λ zs. x ∷ zs) (merged_front n xs y ys (λ k d l m. a (suc k) d (omega arith) (omega arith)))

  merged_first : (x : Place K V) (xs ys : List (Place K V)) → AllByRecursion (λ y. before x.key y.key) ys → merged order (x ∷ xs) ys ≡ x ∷ merged order xs ys
  merged_first x xs [] a = merged_out (x ∷ xs) ∙ ap (λ zs. x ∷ zs) (sym (merged_out xs))
  merged_first x xs (y ∷ ys) a = merged_old x xs y ys a.0

  over_one : (x : Place K V) (xs : List (Place K V)) (y : Place K V) → x.key ≡ y.key → merged order (x ∷ xs) (y ∷ []) ≡ y ∷ xs
  over_one x xs y e = merged_both x xs y [] e ∙ ap (λ zs. y ∷ zs) (merged_out xs)

  before_one : (x : Place K V) (xs : List (Place K V)) (y : Place K V) → before y.key x.key → merged order (x ∷ xs) (y ∷ []) ≡ y ∷ x ∷ xs
  before_one x xs y b = merged_new x xs y [] b ∙ ap (λ zs. y ∷ zs) (merged_out (x ∷ xs))

  -- the whole run is put as its first entry and then the rest
  one_first : (xs : List (Place K V)) (y : Place K V) (ys : List (Place K V)) → AllByRecursion (λ z. before y.key z.key) ys → merged order xs (y ∷ ys) ≡ merged order (merged order xs (y ∷ [])) ys
  one_first [] y ys a = merged_none (y ∷ ys) ∙ sym (ap (λ zs. merged order zs ys) (merged_none (y ∷ [])) ∙ merged_first y [] ys a ∙ ap (λ zs. y ∷ zs) (merged_none ys))
  one_first (x ∷ xs) y ys a =
      by_order order x.key y.key
      (λ b.
      merged_old x xs y ys b ∙ ap (λ zs. x ∷ zs) (one_first xs y ys a)
      ∙ sym (ap (λ zs. merged order zs ys) (merged_old x xs y [] b) ∙ merged_first x (merged order xs (y ∷ [])) ys (all_behind order x.key y.key ys b a)))
      (λ e. merged_both x xs y ys e ∙ sym (ap (λ zs. merged order zs ys) (over_one x xs y e) ∙ merged_first y xs ys a))
      (λ b. merged_new x xs y ys b ∙ sym (ap (λ zs. merged order zs ys) (before_one x xs y b) ∙ merged_first y (x ∷ xs) ys a))

  -- what holds of the entries of both holds of all
  all_one : (P : Place K V → Type 0) (xs : List (Place K V)) (y : Place K V) → AllByRecursion P xs → P y → AllByRecursion P (merged order xs (y ∷ []))
  all_one P [] y a p = subst (AllByRecursion P) (sym (merged_none (y ∷ []))) (p, tt)
  all_one P (x ∷ xs) y a p =
      by_order order x.key y.key (λ b. subst (AllByRecursion P) (sym (merged_old x xs y [] b)) (a.0, all_one P xs y a.1 p))
      (λ e. subst (AllByRecursion P) (sym (over_one x xs y e)) (p, a.1)) (λ b. subst (AllByRecursion P) (sym (before_one x xs y b)) (p, a))

  module _ (k : K) (v : V) where
    at_end : Put before [] k v (entry k v ∷ [])
    at_end = record {
      found = has_here (entry k v) [] (entry k v) refl;
      kept = λ q w n h. absurd (has_none (entry q w) h);
      no_other = λ q w n h. ⊎_elim (λ e. absurd (n (sym (ap (λ (p : Place K V). p.key) e)))) (λ t. t) (has_cases (entry k v) [] (entry q w) h);
      rising = (tt, tt);
      same_count = λ w h. absurd (has_none (entry k w) h);
      one_more = λ _. omega arith;
    }

    module _ (x : Place K V) (xs : List (Place K V)) (up : Rising before (x ∷ xs)) where
      behind : before x.key k → (ys : List (Place K V)) → AllByRecursion (λ y. before x.key y.key) ys → Put before xs k v ys → Put before (x ∷ xs) k v (x ∷ ys)
      behind b ys a p = record {
        found = has_there x ys (entry k v) p.found;
        kept = λ q w n h. ⊎_elim (has_here x ys (entry q w)) (λ t. has_there x ys (entry q w) (p.kept q w n t)) (has_cases x xs (entry q w) h);
        no_other = λ q w n h. ⊎_elim (has_here x xs (entry q w)) (λ t. has_there x xs (entry q w) (p.no_other q w n t)) (has_cases x ys (entry q w) h);
        rising = (a, p.rising);
        same_count = λ w h. ⊎_elim (λ e. absurd (not_itself order x.key k b (ap (λ (p : Place K V). p.key) e))) (λ t. ap suc (p.same_count w t)) (has_cases x xs (entry k w) h);
        one_more = λ lacks. let n = p.one_more (λ w h. lacks w (has_there x xs (entry k w) h)) in omega arith;
      }

      over : x.key ≡ k → Put before (x ∷ xs) k v (entry k v ∷ xs)
      over e = record {
        found = has_here (entry k v) xs (entry k v) refl;
        kept = λ q w n h. ⊎_elim (λ s. absurd (n (sym (ap (λ (p : Place K V). p.key) s) ∙ e))) (has_there (entry k v) xs (entry q w)) (has_cases x xs (entry q w) h);
        no_other = λ q w n h. ⊎_elim (λ s. absurd (n (sym (ap (λ (p : Place K V). p.key) s)))) (has_there x xs (entry q w)) (has_cases (entry k v) xs (entry q w) h);
        rising = (subst (λ a. AllByRecursion (λ y. before a y.key) xs) e up.0, up.1);
        same_count = λ w h. refl;
        one_more = λ lacks. absurd (lacks x.value (has_here x xs (entry k x.value) (λ i. record { key = e i; value = x.value })));
      }

      in_front : before k x.key → Put before (x ∷ xs) k v (entry k v ∷ x ∷ xs)
      in_front b = record {
        found = has_here (entry k v) (x ∷ xs) (entry k v) refl;
        kept = λ q w n h. has_there (entry k v) (x ∷ xs) (entry q w) h;
        no_other = λ q w n h. ⊎_elim (λ s. absurd (n (sym (ap (λ (p : Place K V). p.key) s)))) (λ t. t) (has_cases (entry k v) (x ∷ xs) (entry q w) h);
        rising = ((b, all_behind order k x.key xs b up.0), up);
        same_count = λ w h. absurd (not_there w h);
        one_more = λ _. omega arith;
      }
        where
          not_there : (w : V) → Contains (x ∷ xs) (entry k w) → ⊥
          not_there w h = order.irreflexive k (all_has (λ y. before k y.key) (x ∷ xs) (entry k w) (b, all_behind order k x.key xs b up.0) h)

  put_one : (xs : List (Place K V)) (y : Place K V) → Rising before xs → Put before xs y.key y.value (merged order xs (y ∷ []))
  put_one [] y up = subst (Put before [] y.key y.value) (sym (merged_none (y ∷ []))) (at_end y.key y.value)
  put_one (x ∷ xs) y up =
      by_order order x.key y.key
      (λ b.
      subst (Put before (x ∷ xs) y.key y.value) (sym (merged_old x xs y [] b))
      (behind y.key y.value x xs up b (merged order xs (y ∷ [])) (all_one (λ z. before x.key z.key) xs y up.0 b) (put_one xs y up.1)))
      (λ e. subst (Put before (x ∷ xs) y.key y.value) (sym (over_one x xs y e)) (over y.key y.value x xs up e))
      (λ b. subst (Put before (x ∷ xs) y.key y.value) (sym (before_one x xs y b)) (in_front y.key y.value x xs up b))

  pub puts_merged : (xs run : List (Place K V)) → Rising before xs → Rising before run → Puts before xs run (merged order xs run)
  puts_merged xs [] up asc = subst (Puts before xs []) (sym (merged_out xs)) Puts.none
  puts_merged xs (y ∷ ys) up asc =
      let p = put_one xs y up in
      Puts.more p (subst (Puts before (merged order xs (y ∷ [])) ys) (sym (one_first xs y ys asc.0)) (puts_merged (merged order xs (y ∷ [])) ys p.rising asc.1))
