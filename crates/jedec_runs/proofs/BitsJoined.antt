-- States told as bits of a number: the bits of two numbers one behind another are those of one number.
-- Assumes nothing.
use Rattle.std.proofs.Common.{◌≡◌, ℕ, ◌+◌, ◌*◌, ◌/◌, ◌%◌, ◌^◌, ◌<◌, List, ◌++◌, replicate, sym, ap, ◌∙◌, ap₂, mul_comm, add_comm, zero-add, mul-one, pow-add}
use lib.Arith.{digits_lt}
use lib.ListN.{replicate-append-replicate}
use lib.Pow.{high, low}
use Rattle.cells.specs.Cells.{cut, total}
use Rattle.cells.proofs.Laws.{cut_append, cut_low, total_replicate}

pub bits_under : (n k l x : ℕ) → l < 2 ^ n → x < 2 ^ k → l + x * 2 ^ n < 2 ^ (n + k)
bits_under n k l x h g = rw (add_comm l (x * 2 ^ n), pow-add 2 n k, mul_comm (2 ^ n) (2 ^ k)) (digits_lt g h)

pub bits_joined : (n k l x : ℕ) → l < 2 ^ n → cut (replicate n 1) l ++ cut (replicate k 1) x ≡ cut (replicate (n + k) 1) (l + x * 2 ^ n)
bits_joined n k l x h =
    let bits : total (replicate n 1) ≡ n = total_replicate n 1 ∙ mul-one n in
    let turned : l + x * 2 ^ n ≡ x * 2 ^ n + l = add_comm l (x * 2 ^ n) in
    let below : (l + x * 2 ^ n) % 2 ^ n ≡ l = rw turned (low x n h) in
    let above : (l + x * 2 ^ n) / 2 ^ n ≡ x = rw turned (high x n h) in
    let first : cut (replicate n 1) (l + x * 2 ^ n) ≡ cut (replicate n 1) l =
    sym (cut_low (replicate n 1) (l + x * 2 ^ n) 0)
    ∙ ap (λ (j : ℕ). cut (replicate n 1) ((l + x * 2 ^ n) % 2 ^ j)) (zero-add (total (replicate n 1)) ∙ bits)
    ∙ ap (cut (replicate n 1)) below in
    let second : (l + x * 2 ^ n) / 2 ^ total (replicate n 1) ≡ x = rw bits above in
    sym (ap (λ (ws : List ℕ). cut ws (l + x * 2 ^ n)) (sym (replicate-append-replicate n k 1))
    ∙ cut_append (replicate n 1) (replicate k 1) (l + x * 2 ^ n)
    ∙ ap₂ (λ (a b : List ℕ). a ++ b) first (ap (cut (replicate k 1)) second))
