-- Texts and what they mean for a part of 18144 fuses or of eight (document 01's bench section, points that it leaves
-- open, K3 of document 02), and a written text. reference/tests/stated_texts.rs holds the independent program to them.
use Rattle.std.specs.Prelude.{◌≡◌, List, [], ◌∷◌, ◌++◌, map, ℕ, replicate}
use Prim.Native.String.{String}
use Rattle.part.specs.Outcome.{Outcome}
use Rattle.part.specs.Outcome.Outcome.{accepted, refused}
use Rattle.jedec.specs.Characters.{stx, etx, lf}
use Rattle.jedec.specs.Meaning.{meaning}
use Rattle.jedec.specs.WrittenText.{text_with}
use Rattle.jedec.specs.Quoted.{chars}

-- A text, and what it means.
pub record Case : Type 0 where
  pub text : List ℕ
  pub answer : Outcome (List ℕ)

abbrev pub is : List ℕ → Outcome (List ℕ) → Case
is text answer = record { text = text; answer = answer }

abbrev pub AllHold : (fuses : ℕ) → List Case → Type 0
AllHold fuses cases = map (λ (c : Case). meaning fuses c.text) cases ≡ map (λ (c : Case). c.answer) cases

-- Design text and fields between STX and ETX, and what stands after ETX.
abbrev pub file : String → String → List ℕ
file fields after = stx ∷ chars fields ++ etx ∷ chars after

-- Every fuse at 1, at 0; fuse 0 alone at 1, at 0; the last fuse alone at 1.
abbrev pub all_ones : List ℕ
all_ones = replicate 2268 255

abbrev pub all_zeros : List ℕ
all_zeros = replicate 2268 0

abbrev pub only_first : List ℕ
only_first = 1 ∷ replicate 2267 0

abbrev pub all_but_first : List ℕ
all_but_first = 254 ∷ replicate 2267 255

abbrev pub only_last : List ℕ
only_last = replicate 2267 0 ++ 128 ∷ []

abbrev pub accepted_texts : List Case
accepted_texts =
    -- The text of the bench section.
    is (file "*QF18144*F1*CD324*" "03DD") (accepted all_ones)
    -- 0000 for the transmission sum is not compared.
    ∷ is (file "*QF18144*F1*CD324*" "0000") (accepted all_ones)
    -- Hex digits in lower case.
    ∷ is (file "*QF18144*F1*Cd324*" "03fd") (accepted all_ones)
    -- F after C: the sum is that of the finished image, and F is an F there too.
    ∷ is (file "*QF18144*CD324*F1*" "0000") (accepted all_ones)
    -- Skipped fields, anywhere and more than once.
    ∷ is (file "*N*QF18144*J1*QPa*QV*F1*X*CD324*N *" "0000") (accepted all_ones)
    -- An L with blanks of every kind.
    ∷ is (stx ∷ chars "*QF18144*F0*L0 " ++ 9 ∷ 13 ∷ 10 ∷ chars "1 * " ++ etx ∷ chars "0000 " ++ 10 ∷ [])
    (accepted only_first)
    -- L fields that touch, and fuses that no L gives.
    ∷ is (file "*QF18144*F0*L0 1*L1 0*L5 0*" "0000") (accepted only_first)
    -- F0.
    ∷ is (file "*QF18144*F0*" "0000") (accepted all_zeros)
    -- An L over F1.
    ∷ is (file "*QF18144*F1*L0 0*" "0000") (accepted all_but_first)
    -- An L of the last fuse.
    ∷ is (file "*QF18144*F0*L18143 1*" "0000") (accepted only_last)
    ∷ []

abbrev pub refused_texts : List Case
refused_texts =
    -- Another transmission sum.
    is (file "*QF18144*F1*CD324*" "03DC") (refused 11 19)
    -- Another fuse sum.
    ∷ is (file "*QF18144*F1*CD325*" "0000") (refused 10 13)
    -- C before any state is given, compared with the finished image.
    ∷ is (file "*QF18144*C0000*F1*" "0000") (refused 10 10)
    -- Nothing.
    ∷ is ([]) (refused 7 0)
    -- A blank before STX.
    ∷ is (chars " " ++ stx ∷ chars "*QF18144*" ++ etx ∷ chars "0000") (refused 7 0)
    -- A design text without its star.
    ∷ is (file "" "0000") (refused 7 6)
    -- ETX in the design text.
    ∷ is (stx ∷ etx ∷ chars "*" ++ etx ∷ chars "0000") (refused 7 1)
    -- The design text is no field.
    ∷ is (file "QF18144*" "0000") (refused 8 9)
    -- No field.
    ∷ is (file "*" "0000") (refused 8 2)
    -- A field without its star.
    ∷ is (file "*QF18144*F1" "0000") (refused 7 17)
    -- A text that ends early.
    ∷ is (stx ∷ chars "*QF18144*ZZ") (refused 7 12)
    -- ETX inside a field.
    ∷ is (stx ∷ chars "*QF18144*Nx" ++ etx ∷ chars "0000*" ++ etx ∷ chars "0000") (refused 7 10)
    -- STX where a field could start.
    ∷ is (stx ∷ chars "*QF18144*" ++ stx ∷ chars "*" ++ etx ∷ chars "0000") (refused 7 10)
    -- An empty field.
    ∷ is (file "*QF18144* *" "0000") (refused 7 11)
    -- An F before any QF, and the text ends early.
    ∷ is (stx ∷ chars "*F0*QF1") (refused 7 2)
    -- An F before the QF.
    ∷ is (file "*F0*QF18144*" "0000") (refused 7 2)
    -- An F, an L or a C, and no QF.
    ∷ is (file "*F0*" "0000") (refused 7 2)
    ∷ is (file "*L0 1*" "0000") (refused 7 2)
    ∷ is (file "*C0000*" "0000") (refused 7 2)
    -- A second QF.
    ∷ is (file "*QF18144*QF18144*" "0000") (refused 7 10)
    -- QF with eight digits.
    ∷ is (file "*QF00018144*" "0000") (refused 7 2)
    -- A blank before the star of QF.
    ∷ is (file "*QF18144 *" "0000") (refused 7 2)
    -- A blank before the star of F.
    ∷ is (file "*QF18144*F1 *" "0000") (refused 7 10)
    -- A blank before the star of C.
    ∷ is (file "*QF18144*CD324 *" "0000") (refused 7 10)
    -- Another count.
    ∷ is (file "*QF0018145*" "0000") (refused 8 2)
    -- A count of 0.
    ∷ is (file "*QF0*" "0000") (refused 8 2)
    -- An L without a number.
    ∷ is (file "*QF18144*L 0 1*" "0000") (refused 7 10)
    -- An L without states.
    ∷ is (file "*QF18144*L18145 *" "0000") (refused 7 10)
    -- An L after C.
    ∷ is (file "*QF18144*C0000*L0 1*" "0000") (refused 7 16)
    -- An F after L.
    ∷ is (file "*QF18144*L0 1*F0*" "0000") (refused 7 15)
    -- A second C.
    ∷ is (file "*QF18144*C0000*C0000*" "0000") (refused 7 16)
    -- An L over the one before it.
    ∷ is (file "*QF18144*L5 11*L6 1*" "0000") (refused 9 16)
    -- An L wholly below the one before it.
    ∷ is (file "*QF18144*L5 11*L0 1*" "0000") (refused 9 16)
    -- An L past the count.
    ∷ is (file "*QF18144*L18143 11*" "0000") (refused 9 10)
    -- Letters that no field has.
    ∷ is (file "*QF18144*V1*" "0000") (refused 7 10)
    -- A Q alone.
    ∷ is (file "*QF18144*Q*" "0000") (refused 7 10)
    -- A Q with another letter.
    ∷ is (file "*QF18144*QX*" "0000") (refused 7 10)
    -- A letter in lower case.
    ∷ is (file "*QF18144*f1*" "0000") (refused 7 10)
    -- Two digits after ETX and a blank.
    ∷ is (stx ∷ chars "*QF18144*" ++ etx ∷ chars "00" ++ 10 ∷ []) (refused 7 13)
    -- Two digits after ETX.
    ∷ is (file "*QF18144*" "00") (refused 7 13)
    -- A fifth digit after ETX.
    ∷ is (file "*QF18144*" "00000") (refused 7 15)
    -- The form comes before the count.
    ∷ is (file "*QF1*" "0000x") (refused 7 11)
    -- A second F.
    ∷ is (file "*QF18144*F0*F0*" "0000") (refused 7 13)
    -- An L before the QF.
    ∷ is (file "*L0 1*QF18144*" "0000") (refused 7 2)
    -- A C before the QF.
    ∷ is (file "*C0000*QF18144*" "0000") (refused 7 2)
    -- QF without digits.
    ∷ is (file "*QF*" "0000") (refused 7 2)
    -- The character before 0 for a digit.
    ∷ is (file "*QF1814/*" "0000") (refused 7 2)
    -- The character after 9 for a digit.
    ∷ is (file "*QF1814:*" "0000") (refused 7 2)
    -- F2.
    ∷ is (file "*QF18144*F2*" "0000") (refused 7 10)
    -- F01.
    ∷ is (file "*QF18144*F01*" "0000") (refused 7 10)
    -- F without a digit.
    ∷ is (file "*QF18144*F*" "0000") (refused 7 10)
    -- C with three digits.
    ∷ is (file "*QF18144*C000*" "0000") (refused 7 10)
    -- C with five digits.
    ∷ is (file "*QF18144*C00000*" "0000") (refused 7 10)
    -- C with a G.
    ∷ is (file "*QF18144*C000G*" "0000") (refused 7 10)
    -- An L without a blank.
    ∷ is (file "*QF18144*L01*" "0000") (refused 7 10)
    -- An L with a 2.
    ∷ is (file "*QF18144*L0 012*" "0000") (refused 7 10)
    -- An L of eight digits.
    ∷ is (file "*QF18144*L00000000 1*" "0000") (refused 7 10)
    -- STX in the design text.
    ∷ is (stx ∷ chars "a" ++ stx ∷ chars "*QF18144*" ++ etx ∷ chars "0000") (refused 7 1)
    -- STX inside a field.
    ∷ is (stx ∷ chars "*QF18144*N" ++ stx ∷ chars "*" ++ etx ∷ chars "0000") (refused 7 10)
    -- The character after f for a hex digit.
    ∷ is (file "*QF18144*" "000g") (refused 7 14)
    -- The character before A for a hex digit.
    ∷ is (file "*QF18144*" "000@") (refused 7 14)
    -- The character after F for a hex digit.
    ∷ is (file "*QF18144*" "000G") (refused 7 14)
    -- The character before a for a hex digit.
    ∷ is (file "*QF18144*" "000`") (refused 7 14)
    -- A vertical tab is no blank.
    ∷ is (stx ∷ chars "*QF18144*" ++ etx ∷ chars "0000" ++ 11 ∷ []) (refused 7 15)
    -- The lowest of 8, 9, 10 and 11.
    ∷ is (file "*QF18145*L5 11*L0 1*C0000*" "0001") (refused 8 2)
    -- The lowest of 9, 10 and 11; the first of two L fields.
    ∷ is (file "*QF18144*L5 11*L0 1*L0 1*C0000*" "0001") (refused 9 16)
    -- The lowest of 10 and 11.
    ∷ is (file "*QF18144*F1*CD325*" "0001") (refused 10 13)
    -- The lowest of 8 and 11: no QF.
    ∷ is (file "*" "0001") (refused 8 2)
    -- Neither F nor L.
    ∷ is (file "*QF18144*" "0000") (refused 13 0)
    -- The same with the fuse sum that zeros would have.
    ∷ is (file "*QF18144*C0000*" "0000") (refused 13 0)
    -- No F, and fuses before the first L.
    ∷ is (file "*QF18144*L18143 1*" "0000") (refused 13 0)
    -- No F, and fuses between two L fields.
    ∷ is (file "*QF18144*L0 11*L3 1*" "0000") (refused 13 2)
    -- An L that gives one of these, but late.
    ∷ is (file "*QF18144*L0 11*L3 1*L2 1*" "0000") (refused 9 21)
    -- No F, and fuses between L fields and behind the last: the first of all.
    ∷ is (file "*QF18144*L0 1*L1 0*L5 0*" "0000") (refused 13 2)
    -- No F, and an L with blanks of every kind: a blank gives no fuse.
    ∷ is (stx ∷ chars "*QF18144*L0 " ++ 9 ∷ 13 ∷ 10 ∷ chars "1 * " ++ etx ∷ chars "0000 " ++ 10 ∷ []) (refused 13 1)
    -- 13 is before 10 and 11.
    ∷ is (file "*QF18144*L0 1*C0000*" "0001") (refused 13 1)
    -- 7, 8 and 9 are before 13.
    ∷ is (file "*QF18144*L1 1*" "000") (refused 7 19)
    ∷ is (file "*QF18145*L1 1*" "0000") (refused 8 2)
    ∷ is (file "*QF18144*L1 1*L1 1*" "0000") (refused 9 15)
    ∷ []

-- The fuses 1 0 1 0 0 1 0 1.
abbrev pub eight_fuses : List ℕ
eight_fuses = 165 ∷ []

-- Texts for eight fuses, so that an L field can give them all.
abbrev pub eight_fuse_texts : List Case
eight_fuse_texts =
    -- No F, and every fuse given: by one L, by two, and by eight.
    is (file "*QF8*L0 10100101*" "0000") (accepted eight_fuses)
    ∷ is (file "*QF8*L0 101*L3 00101*C00A5*" "0000") (accepted eight_fuses)
    ∷ is (file "*QF8*L0 1*L1 0*L2 1*L3 0*L4 0*L5 1*L6 0*L7 1*" "0000") (accepted eight_fuses)
    -- One fuse not given: the first, one in between, the last.
    ∷ is (file "*QF8*L1 0100101*" "0000") (refused 13 0)
    ∷ is (file "*QF8*L0 101*L4 0101*" "0000") (refused 13 3)
    ∷ is (file "*QF8*L0 1010010*" "0000") (refused 13 7)
    -- The same with an F before the L fields, and after them, where it is a bad field.
    ∷ is (file "*QF8*F0*L0 101*L4 0101*" "0000") (accepted eight_fuses)
    ∷ is (file "*QF8*L0 101*L4 0101*F0*" "0000") (refused 7 21)
    -- The sums are asked only of a text that gives every fuse.
    ∷ is (file "*QF8*L0 10100101*C00A4*" "0000") (refused 10 18)
    ∷ is (file "*QF8*L0 1010010*C00A4*" "0000") (refused 13 7)
    ∷ is (file "*QF8*L0 10100101*" "0001") (refused 11 18)
    ∷ is (file "*QF8*L0 1010010*" "0001") (refused 13 7)
    -- As many states as fuses, but one fuse twice.
    ∷ is (file "*QF8*L0 1010*L3 0010*" "0000") (refused 9 14)
    ∷ []

-- What is written of eight fuses, 1 0 1 0 0 1 0 1, in one line of two columns.
abbrev pub WrittenText : Type 0
WrittenText =
    text_with 8 ((4 ∷ 4 ∷ []) ∷ []) (165 ∷ [])
    ≡ stx ∷ chars "*" ++ lf ∷ chars "QF8*" ++ lf ∷ chars "F0*" ++ lf ∷ chars "L0000000 1010 0101*" ++ lf
    ∷ chars "C00A5*" ++ lf ∷ etx ∷ chars "06C7"
