-- Bytes counted up to the next `*`.
-- A loop keeps each law, since it is said of the bytes still to come.
use mathlib.Core.Path.{◌≡◌, refl}
use mathlib.Core.List.{List}
use Prim.Native.Nat.{ℕ, ◌+◌, ◌≤◌, ◌<◌}
use lib.Dec.{eqb}
use lib.ListN.{length, get_or, drop}
use borrow.Author.Tests.{eq-eqb, ne_eqb}
use Rattle.jedec.proofs.Counts.{Counts, stops, goes, ends}
use Rattle.jedec_fields.specs.Fields.{until_star}

star_counts : Counts until_star (λ b. eqb b 42)
unfolding until_star
star_counts = record { nil = refl; here = λ b bytes e. rw e; past = λ b bytes e. rw e }

module _ (text : List ℕ) (i all : ℕ) where
  pub star_stops : i + until_star (drop i text) ≡ all → i < length text → get_or text i 0 ≡ 42 → i ≡ all
  star_stops h l e = stops until_star (λ b. eqb b 42) star_counts text i all h l (eq-eqb (get_or text i 0) 42 e)

  pub star_goes : i + until_star (drop i text) ≡ all → i < length text → (get_or text i 0 ≡ 42 → ⊥)
      → i + 1 + until_star (drop (i + 1) text) ≡ all
  star_goes h l e = goes until_star (λ b. eqb b 42) star_counts text i all h l (ne_eqb (get_or text i 0) 42 e)

  pub star_ends : i + until_star (drop i text) ≡ all → length text ≤ i → i ≡ all
  star_ends h l = ends until_star (λ b. eqb b 42) star_counts text i all h l
