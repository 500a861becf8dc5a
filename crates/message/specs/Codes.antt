-- The return codes of document 01 and of cards 8 and 11, and the number of field 0D for each.
use Rattle.std.specs.Prelude.{ℕ, zero, suc, ◌+◌, ◌*◌, ◌/◌, ◌%◌, List, [], ◌∷◌}
use Rattle.message.specs.declared.codes.ReturnCode.{ReturnCode}
use Rattle.message.specs.declared.codes.ReturnCode.TheVariants as code

-- all of them, in the order of their numbers
abbrev pub return_codes : List ReturnCode
return_codes =
    code.Ok
    ∷ code.DownloadPostprocessDone
    ∷ code.DownloadPostprocessSkipped
    ∷ code.SegmentNumberUnderrun
    ∷ code.InvalidRequest
    ∷ code.InternalError
    ∷ code.RecoverySync
    ∷ code.NoDownloadDataAvailable
    ∷ code.UserUnknown
    ∷ code.InvalidOrderType
    ∷ code.SegmentSizeExceeded
    ∷ code.InvalidXml
    ∷ code.UnknownTransaction
    ∷ code.TransactionAbort
    ∷ code.MessageReplay
    ∷ code.SegmentNumberExceeded
    ∷ code.OrderIdUnknown
    ∷ code.OrderIdAlreadyExists
    ∷ code.MaxSegmentsExceeded
    ∷ code.MaxTransactionsExceeded
    ∷ []

-- Document 01's six-digit code, as a decimal number; card 8, "It refuses an order not in the book with 091114";
-- card 11, "one held by an open or booked upload of that subscriber and type with 091115"
abbrev pub code_value : ReturnCode → ℕ
code_value code.Ok = 0
code_value code.DownloadPostprocessDone = 11000
code_value code.DownloadPostprocessSkipped = 11001
code_value code.SegmentNumberUnderrun = 11101
code_value code.InvalidRequest = 61002
code_value code.InternalError = 61099
code_value code.RecoverySync = 61101
code_value code.NoDownloadDataAvailable = 90005
code_value code.UserUnknown = 91003
code_value code.InvalidOrderType = 91005
code_value code.SegmentSizeExceeded = 91009
code_value code.InvalidXml = 91010
code_value code.UnknownTransaction = 91101
code_value code.TransactionAbort = 91102
code_value code.MessageReplay = 91103
code_value code.SegmentNumberExceeded = 91104
code_value code.OrderIdUnknown = 91114
code_value code.OrderIdAlreadyExists = 91115
code_value code.MaxSegmentsExceeded = 91118
code_value code.MaxTransactionsExceeded = 91119

-- The number of the last w decimal digits of n as ASCII bytes, high byte first
abbrev pub ascii_digits : ℕ → ℕ → ℕ
ascii_digits zero n = 0
ascii_digits (suc w) n = ascii_digits w (n / 10) * 256 + (48 + n % 10)

-- "0D return code, 6 ASCII digits"
abbrev pub code_field : ReturnCode → ℕ
code_field c = ascii_digits 6 (code_value c)
