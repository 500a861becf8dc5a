-- Every row of the table of cases gives what is due, by computation: each line of document 01 and of cards 5, 6, 8
-- and 11 by itself. Assumes nothing.
use mathlib.Core.Path.{refl}
use Rattle.case_rows.specs.Rows.{Holds}
use Rattle.case_rows.proofs.Computing.{frames, messages, signings, choices}
use Rattle.case_rows.proofs.Tables.{listed, both, otherwise}
use Rattle.cases.specs.Table.{
  largest,
  request_lengths,
  reply_lengths,
  come,
  timestamp_cases,
  idle_cases,
  order_number_cases,
  series_cases,
  length_cases,
  segment_cases,
  repeat_cases,
  last_mark_cases,
  booked_cases,
  file_cases,
  receipt_cases,
  signer_cases,
  signing_cases,
  chosen_cases,
  own_cases,
  cases,
}
use Rattle.cases.proofs.Quick.{calls, quick, same}

timestamps-hold : Holds quick timestamp_cases
unfolding timestamp_cases calls
timestamps-hold = listed timestamp_cases refl

idle-hold : Holds quick idle_cases
unfolding idle_cases calls
idle-hold = listed idle_cases refl

order-numbers-hold : Holds quick order_number_cases
unfolding order_number_cases calls
order-numbers-hold = listed order_number_cases refl

series-hold : Holds quick series_cases
unfolding series_cases calls
series-hold = listed series_cases refl

lengths-hold : Holds quick length_cases
unfolding length_cases largest request_lengths reply_lengths frames messages signings choices
lengths-hold = listed length_cases refl

segments-hold : Holds quick segment_cases
unfolding segment_cases calls
segments-hold = listed segment_cases refl

repeats-hold : Holds quick repeat_cases
unfolding repeat_cases calls
repeats-hold = listed repeat_cases refl

last-marks-hold : Holds quick last_mark_cases
unfolding last_mark_cases calls
last-marks-hold = listed last_mark_cases refl

booked-hold : Holds quick booked_cases
unfolding booked_cases calls
booked-hold = listed booked_cases refl

files-hold : Holds quick file_cases
unfolding file_cases calls
files-hold = listed file_cases refl

receipts-hold : Holds quick receipt_cases
unfolding receipt_cases calls
receipts-hold = listed receipt_cases refl

signers-hold : Holds quick signer_cases
unfolding signer_cases calls
signers-hold = listed signer_cases refl

signings-hold : Holds quick signing_cases
unfolding signing_cases calls
signings-hold = listed signing_cases refl

chosen-hold : Holds quick chosen_cases
unfolding chosen_cases calls
chosen-hold = listed chosen_cases refl

own-hold : Holds quick own_cases
unfolding own_cases calls
own-hold = listed own_cases refl

pub cases-hold : Holds come cases
unfolding cases
cases-hold =
    otherwise same
    (both timestamps-hold
    (both idle-hold
    (both order-numbers-hold
    (both series-hold
    (both lengths-hold
    (both segments-hold
    (both repeats-hold (both last-marks-hold (both booked-hold
    (both files-hold (both receipts-hold (both signers-hold
    (both signings-hold (both chosen-hold own-hold))))))))))))))
