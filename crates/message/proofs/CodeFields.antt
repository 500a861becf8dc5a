-- The return codes' fields: six digits each, and no two the same. Assumes nothing.
use Prim.Native.Nat.{ℕ, zero, suc, ◌<◌, ◌^◌}
use mathlib.Core.Bool.{Bool, true, cond, ◌&&◌}
use mathlib.Core.List.{List, [], ◌∷◌}
use mathlib.Core.Path.{◌≡◌, refl, sym, ap, ◌∙◌}
use lib.Dec.{eqb, ltb}
use lib.ListN.{get_or}
use borrow.Author.Tests.{ltb-true}
use Rattle.octets.specs.Bytes.{bytes_of}
use Rattle.frame_table.specs.Table.{return_code_tag, allowed, in_range, width, values_of}
use Rattle.frame_row.specs.Row.{spelled, listed}
use Rattle.octets.proofs.Tests.{and-true}
use Rattle.message.specs.declared.codes.ReturnCode.{ReturnCode}
use Rattle.message.specs.declared.codes.ReturnCode.TheVariants as code
use Rattle.message.specs.Codes.{return_codes, code_field}

abbrev code_at : ℕ → ReturnCode
code_at i = get_or return_codes i code.Ok

-- the place of the first code of l with this field
abbrev place_in : List ReturnCode → ℕ → ℕ
place_in [] n = 0
place_in (c ∷ l) n = cond (eqb (code_field c) n) 0 (suc (place_in l n))

abbrev code_of : ℕ → ReturnCode
code_of n = code_at (place_in return_codes n)

code_of-field : (c : ReturnCode) → code_of (code_field c) ≡ c
code_of-field code.Ok = refl
code_of-field code.DownloadPostprocessDone = refl
code_of-field code.DownloadPostprocessSkipped = refl
code_of-field code.SegmentNumberUnderrun = refl
code_of-field code.InvalidRequest = refl
code_of-field code.InternalError = refl
code_of-field code.RecoverySync = refl
code_of-field code.NoDownloadDataAvailable = refl
code_of-field code.UserUnknown = refl
code_of-field code.InvalidOrderType = refl
code_of-field code.SegmentSizeExceeded = refl
code_of-field code.InvalidXml = refl
code_of-field code.UnknownTransaction = refl
code_of-field code.TransactionAbort = refl
code_of-field code.MessageReplay = refl
code_of-field code.SegmentNumberExceeded = refl
code_of-field code.OrderIdUnknown = refl
code_of-field code.OrderIdAlreadyExists = refl
code_of-field code.MaxSegmentsExceeded = refl
code_of-field code.MaxTransactionsExceeded = refl

-- different codes have different fields
pub code_field-injective : (a b : ReturnCode) → code_field a ≡ code_field b → a ≡ b
code_field-injective a b e = sym (code_of-field a) ∙ ap code_of e ∙ code_of-field b

-- p holds of each code of l
abbrev all_of : (ReturnCode → Bool) → List ReturnCode → Bool
all_of p [] = true
all_of p (c ∷ l) = p c && all_of p l

all-at : (p : ReturnCode → Bool) (l : List ReturnCode) (i : ℕ) → p code.Ok ≡ true → all_of p l ≡ true → p (get_or l i code.Ok) ≡ true
all-at p [] i k h = k
all-at p (c ∷ l) zero k h = (and-true (p c) (all_of p l) h).0
all-at p (c ∷ l) (suc i) k h = all-at p l i k (and-true (p c) (all_of p l) h).1

-- a test computed for all codes holds of each
every-code : (p : ReturnCode → Bool) → p code.Ok ≡ true → all_of p return_codes ≡ true → (c : ReturnCode) → p c ≡ true
every-code p k h c = ap p (sym (code_of-field c)) ∙ all-at p return_codes (place_in return_codes (code_field c)) k h

-- six digits, as document 01 lists the bytes of field 0D
pub code-listed : (c : ReturnCode) → listed return_code_tag (bytes_of (width return_code_tag) (code_field c)) ≡ true
unfolding listed spelled bytes_of width values_of allowed in_range
code-listed = every-code (λ c. listed return_code_tag (bytes_of (width return_code_tag) (code_field c))) refl refl

pub code_lt : (c : ReturnCode) → code_field c < 2 ^ 48
code_lt c = ltb-true (code_field c) (2 ^ 48) (every-code (λ c. ltb (code_field c) (2 ^ 48)) refl refl c)
