-- Sums over the places below a number.
use Rattle.std.proofs.Common.{◌≡◌, ℕ, zero, suc, ◌+◌, ◌*◌, ◌/◌, ◌<◌, ◌≤◌, Bool, true, false, cond, not, ◌&&◌, eqb, sym, refl, ap, ◌∙◌, ⊎_elim, add-zero, arith}
use Rattle.std.proofs.lemmas.Bool.{cases_eq, cases_lt, cond_both, eqb-false, false≢true, true≢false}
use Rattle.closing.specs.Sharing.{below, portion}
use Rattle.closing.proofs.Shares.{adds_up}

pub below_cong : (f g : ℕ → ℕ) (n : ℕ) → ((i : ℕ) → i < n → f i ≡ g i) → below f n ≡ below g n
below_cong f g zero h = refl
below_cong f g (suc n) h =
    let ih = below_cong f g n (λ i l. h i (omega arith)) in
    let e = h n (omega arith) in
    omega arith

pub below_add : (f g : ℕ → ℕ) (n : ℕ) → below (λ i. f i + g i) n ≡ below f n + below g n
below_add f g zero = refl
below_add f g (suc n) = let ih = below_add f g n in omega arith

-- one entry is at most the sum
pub below_entry : (f : ℕ → ℕ) (n i : ℕ) → i < n → f i ≤ below f n
below_entry f zero i l = absurd (omega arith)
below_entry f (suc n) i l = ⊎_elim (λ e. here e) (λ ne. let ih = below_entry f n i (omega arith) in omega arith) (cases_eq i n)
  where
    here : i ≡ n → f i ≤ below f (suc n)
    here e = let q = ap f e in omega arith

-- a sum that is 0 has only 0
pub below_none : (f : ℕ → ℕ) (n i : ℕ) → below f n ≡ 0 → i < n → f i ≡ 0
below_none f n i e l = let h = below_entry f n i l in omega arith

-- all entries 0
pub below_zero : (f : ℕ → ℕ) (n : ℕ) → ((i : ℕ) → i < n → f i ≡ 0) → below f n ≡ 0
below_zero f zero h = refl
below_zero f (suc n) h =
    let ih = below_zero f n (λ i l. h i (omega arith)) in
    let e = h n (omega arith) in
    omega arith

-- a positive sum has a positive entry
pub below_some : (f : ℕ → ℕ) (n : ℕ) → 0 < below f n → (i : ℕ) × (i < n) × (0 < f i)
below_some f zero h = absurd (omega arith)
below_some f (suc n) h = ⊎_elim (λ l. (n, omega arith, l)) (λ z. let t = below_some f n (omega arith) in (t.0, omega arith, t.2)) (cases_lt 0 (f n))

-- masks
pub counted : (b : Bool) (v : ℕ) → 0 < cond b v 0 → (b ≡ true) × (0 < v)
counted true v h = (refl, h)
counted false v h = absurd (omega arith)

pub uncounted : (b : Bool) → ◌≡◌ {A = ℕ} (cond b 1 0) 0 → b ≡ false
uncounted true h = absurd (omega arith)
uncounted false h = refl

pub masked : (b : Bool) (v : ℕ) → b ≡ true → cond b v 0 ≡ v
masked true v h = refl
masked false v h = absurd (false≢true h)

pub unmasked : (b : Bool) (v : ℕ) → b ≡ false → cond b v 0 ≡ 0
unmasked true v h = absurd (true≢false h)
unmasked false v h = refl

-- what a place without weight gets
pub portion_none : (R : ℕ) (w : ℕ → ℕ) (n i : ℕ) → w i ≡ 0 → portion R w n i ≡ 0
portion_none R w n i e =
    let q : (R * (below w i + w i)) / below w n ≡ (R * below w i) / below w n =
    ap (λ x. (R * x) / below w n) (ap (λ y. below w i + y) e ∙ add-zero (below w i)) in
    omega arith

-- the weights of a group: as given, or all alike where they are all 0
abbrev pub group_weight : ℕ → (ℕ → Bool) → (ℕ → ℕ) → ℕ → ℕ
group_weight n G w i = cond (eqb (below (λ j. cond (G j) (w j) 0) n) 0) (cond (G i) 1 0) (cond (G i) (w i) 0)

pub outside_weight : (n : ℕ) (G : ℕ → Bool) (w : ℕ → ℕ) (i : ℕ) → G i ≡ false → group_weight n G w i ≡ 0
outside_weight n G w i h =
    cond_both (eqb (below (λ j. cond (G j) (w j) 0) n) 0) (cond (G i) 1 0) (cond (G i) (w i) 0) (λ x. x ≡ 0)
    (λ _. unmasked (G i) 1 h) (λ _. unmasked (G i) (w i) h)

either_sum : (b : Bool) (f g : ℕ → ℕ) (n : ℕ) → (b ≡ true → 0 < below f n) → (b ≡ false → 0 < below g n) → 0 < below (λ i. cond b (f i) (g i)) n
either_sum true f g n h k = h refl
either_sum false f g n h k = k refl

pub group_positive : (n : ℕ) (G : ℕ → Bool) (w : ℕ → ℕ) (i : ℕ) → i < n → G i ≡ true → 0 < below (group_weight n G w) n
group_positive n G w i l h =
    either_sum (eqb (below (λ j. cond (G j) (w j) 0) n) 0) (λ j. cond (G j) 1 0) (λ j. cond (G j) (w j) 0) n
    (λ _. let e = below_entry (λ j. cond (G j) 1 0) n i l in let m = masked (G i) 1 h in omega arith)
    (λ e. let ne = eqb-false (below (λ j. cond (G j) (w j) 0) n) 0 e in omega arith)

-- what a group's places get adds up to what is shared, where there is one
pub shared_out : (R n : ℕ) (G : ℕ → Bool) (w : ℕ → ℕ) (i : ℕ) → i < n → G i ≡ true → below (portion R (group_weight n G w) n) n ≡ R
shared_out R n G w i l h = adds_up R (group_weight n G w) n (group_positive n G w i l h)

pub no_share : (R n : ℕ) (G : ℕ → Bool) (w : ℕ → ℕ) (i : ℕ) → G i ≡ false → portion R (group_weight n G w) n i ≡ 0
no_share R n G w i h = portion_none R (group_weight n G w) n i (outside_weight n G w i h)

-- The three sums of a closed tariff period: L says which places lie in it, R which were read, e what was read.
module _ (n : ℕ) (L R : ℕ → Bool) (e : ℕ → ℕ) (unread : (i : ℕ) → R i ≡ false → e i ≡ 0) where
  abbrev pub sum_read : ℕ
  sum_read = below (λ i. cond (L i) (e i) 0) n

  kept_entry : (l r : Bool) (x : ℕ) → (r ≡ false → x ≡ 0) → cond l (cond r x 0) 0 ≡ cond l x 0
  kept_entry true true x h = refl
  kept_entry true false x h = sym (h refl)
  kept_entry false r x h = refl

  -- read hours kept, the others 0
  pub kept_sum : below (λ i. cond (L i) (cond (R i) (e i) 0) 0) n ≡ sum_read
  kept_sum = below_cong (λ i. cond (L i) (cond (R i) (e i) 0) 0) (λ i. cond (L i) (e i) 0) n (λ i l. kept_entry (L i) (R i) (e i) (unread i))

  shared_entry : (l r : Bool) (x : ℕ) → ((l && r) ≡ false → x ≡ 0) → cond l (cond r x 0) 0 ≡ x
  shared_entry true true x h = refl
  shared_entry true false x h = sym (h refl)
  shared_entry false r x h = sym (h refl)

  -- read hours shared anew, the others 0
  pub anew_sum : (B : ℕ) (w : ℕ → ℕ) (i : ℕ) → i < n → (L i && R i) ≡ true →
      below (λ j. cond (L j) (cond (R j) (portion B (group_weight n (λ k. L k && R k) w) n j) 0) 0) n ≡ B
  anew_sum B w i l h =
      below_cong (λ j. cond (L j) (cond (R j) (portion B (group_weight n (λ k. L k && R k) w) n j) 0) 0) (portion B (group_weight n (λ k. L k && R k) w) n) n
      (λ j _. shared_entry (L j) (R j) (portion B (group_weight n (λ k. L k && R k) w) n j) (no_share B n (λ k. L k && R k) w j))
      ∙ shared_out B n (λ k. L k && R k) w i l h

  filled_entry : (l r : Bool) (x y : ℕ) → (r ≡ false → x ≡ 0) → ((l && not r) ≡ false → y ≡ 0) → cond l (cond r x y) 0 ≡ cond l x 0 + y
  filled_entry true true x y h k = let z = k refl in omega arith
  filled_entry true false x y h k = let z = h refl in omega arith
  filled_entry false r x y h k = let z = k refl in omega arith

  -- read hours kept, the others by shares
  pub filled_sum : (D : ℕ) (w : ℕ → ℕ) (i : ℕ) → i < n → (L i && not (R i)) ≡ true →
      below (λ j. cond (L j) (cond (R j) (e j) (portion D (group_weight n (λ k. L k && not (R k)) w) n j)) 0) n ≡ sum_read + D
  filled_sum D w i l h =
      let P : ℕ → ℕ = portion D (group_weight n (λ k. L k && not (R k)) w) n in
      let a = below_cong (λ j. cond (L j) (cond (R j) (e j) (P j)) 0) (λ j. cond (L j) (e j) 0 + P j) n
      (λ j _. filled_entry (L j) (R j) (e j) (P j) (unread j) (no_share D n (λ k. L k && not (R k)) w j)) in
      let b = below_add (λ j. cond (L j) (e j) 0) P n in
      let c = shared_out D n (λ k. L k && not (R k)) w i l h in
      a ∙ b ∙ ap (λ x. sum_read + x) c
