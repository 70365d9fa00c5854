use Rattle.std.proofs.Common.{◌≡◌, ℕ, zero, suc, ◌+◌, ◌-◌, ◌*◌, ◌/◌, ◌<◌, ◌≤◌, sym, ap, ◌∙◌, add-mul, mul-zero, le-div_iff_mul-le, mul-add, div-mul-le_self, mul-div_cancel, arith}
use native.Mathlib.Nat.{zero-div, lt-div-mul-add}
use Rattle.closing.specs.Sharing.{below, portion, AddsUp, NearlyExact}

pub div_mono : (a b W : ℕ) → 0 < W → a ≤ b → a / W ≤ b / W
div_mono a b W pos h = (le-div_iff_mul-le pos).1 (omega (arith, div-mul-le_self a W))

-- up to place k the portions come to the quotient there
so_far : (R : ℕ) (w : ℕ → ℕ) (n k : ℕ) → 0 < below w n → below (portion R w n) k ≡ (R * below w k) / below w n
so_far R w n zero pos = sym (ap (λ x. x / below w n) (mul-zero R) ∙ zero-div (below w n))
so_far R w n (suc k) pos =
    let ih = so_far R w n k pos in
    let grows : R * below w k ≤ R * (below w k + w k) = omega (arith, mul-add R (below w k) (w k)) in
    let m = div_mono (R * below w k) (R * (below w k + w k)) (below w n) pos grows in
    omega (arith, ih, m)

pub adds_up : AddsUp
adds_up R w n pos = so_far R w n n pos ∙ mul-div_cancel R pos

pub nearly_exact : NearlyExact
nearly_exact R w n i pos =
    let W = below w n in
    let C = below w i in
    let a = R * C in
    let b = R * (C + w i) in
    let e : b ≡ R * C + R * w i = mul-add R C (w i) in
    let m = div_mono a b W pos (omega arith) in
    let a1 = div-mul-le_self a W in
    let a2 : a < a / W * W + W = lt-div-mul-add pos in
    let b1 = div-mul-le_self b W in
    let b2 : b < b / W * W + W = lt-div-mul-add pos in
    let d : (b / W - a / W) * W + a / W * W ≡ b / W * W = sym (add-mul (b / W - a / W) (a / W) W) ∙ ap (λ x. x * W) (omega arith) in
    (omega arith, omega arith)
