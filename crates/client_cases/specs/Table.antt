-- Document 01, "The client's owner" and "The client run", as rows: the numbers in their order and at their limits, what
-- fits each step and what does not, the closing words, and card 11's editions. The calls are `begin_call`, `reply_call`,
-- `no_reply_call` and `journal_call`. Digits stand here as in the paper.
use Rattle.std.specs.Prelude.{Result, Ok, Err}
use Rattle.client_run.specs.declared.run.Refusal.{Refusal}
use Rattle.std.specs.Prelude.{ℕ, List, [], ◌∷◌, ◌++◌, replicate, take}
use Rattle.frame_table.specs.declared.fields.Fields.{Fields}
use Rattle.frame_table.specs.Names.{phase, segment, order_number, no_fields, with, with_wide}
use Rattle.frame_table.specs.Table.{phase_tag, transaction_tag, segment_tag, return_code_tag}
use Rattle.frame_reader.specs.Reader.{read_request}
use Rattle.frame_writer.specs.Writer.{frame_of}
use Rattle.message.specs.declared.codes.ReturnCode.{ReturnCode}
use Rattle.message.specs.declared.codes.ReturnCode.TheVariants as code
use Rattle.message.specs.declared.editions.Edition.{Edition}
use Rattle.message.specs.declared.editions.Edition.TheVariants.{V24, V25}
use Rattle.message.specs.OrderNumbers.{order_number_of}
use Rattle.message.specs.Replies.{
  upload_opened,
  chosen_opened,
  download_opened,
  segment_taken,
  recovery_point,
  download_segment,
  receipt_answered,
  unreadable,
  refusal,
}
use Rattle.journal.specs.Events.{no_event}
use Rattle.client_run.specs.declared.run.Answer.{Answer}
use Rattle.client_run.specs.declared.run.Answer.TheVariants as answer
use Rattle.client_run.specs.declared.run.ClientRun.{ClientRun}
use Rattle.message.specs.declared.directions.Direction.{Direction}
use Rattle.message.specs.declared.directions.Direction.TheVariants.{Upload, Download}
use Rattle.client_run.specs.declared.run.RunTerms.{RunTerms}
use Rattle.client_run.specs.declared.run.Word.{Word}
use Rattle.client_run.specs.declared.run.Word.TheVariants.{
  Lodged,
  NotLodged,
  Unclear,
  Fetched,
  HeldUnconfirmed,
  NotFetched,
}
use Rattle.client_run.specs.NextRun.{begun, ended}
use Rattle.client_run.specs.Run.{Lent, lent_of, ClientCall, terms_of25, not_begun, parameters_of}
use Rattle.client.specs.Calls.{begin_call, reply_call, no_reply_call}
use Rattle.client.specs.Journal.{journal_call}
use Rattle.case_rows.specs.Rows.{Case, ◌gives◌, clock, id_of, six}

-- ---- a call, and what comes of it

-- a reply with its data arrives, or none does
pub data Event : Type 0 where
  arrives : Fields → List ℕ → Event
  silence : Event

-- a call of the client's owner
pub data OwnerCall : Type 0 where
  -- subscriber 1 begins a run, an upload of so many bytes, under exchange number 7; then these events: the last call
  runs : Direction → ℕ → List Event → OwnerCall
  -- the same of an upload of edition 2.4, which brings A007
  chooses : ℕ → List Event → OwnerCall
  -- the same of 1 byte with these terms: the order number that the request has, and the one that the run has then
  carries : Direction → RunTerms → List Event → OwnerCall
  learns : RunTerms → List Event → OwnerCall
  -- begin comes to a run, with direction, subscriber and first exchange number, at a time, lent a payload, a file
  -- buffer and a request buffer of so many bytes
  begins : ClientRun → Direction → ℕ → ℕ → ℕ → ℕ → ℕ → ℕ → OwnerCall
  -- a reply, and no reply, comes to a run at a time, lent the same
  hears : ClientRun → ℕ → ℕ → ℕ → ℕ → OwnerCall
  waits : ClientRun → ℕ → ℕ → ℕ → ℕ → OwnerCall
  -- a run is handed a journal of so many records
  reads : ClientRun → ℕ → OwnerCall

-- what comes of it: a request of a phase and for a segment (0 where it has none), an order number (0 where there is
-- none), a closing word, nothing, or a number
pub data Outcome : Type 0 where
  issues : ℕ → ℕ → Outcome
  numbered : ℕ → Outcome
  closes : Word → Outcome
  ignores : Outcome
  gets : ℕ → Outcome

-- the request is read from the buffer that it was written to
abbrev pub outcome_by : Result Answer Refusal → ClientCall → Outcome
outcome_by (Ok (answer.Request n)) c = let q = read_request (take n c.request) in issues (phase q) (segment q)
outcome_by (Ok answer.Ignored) c = ignores
outcome_by (Ok (answer.Closed w)) c = closes w
outcome_by (Err r) c = gets c.number

abbrev pub number_in : Result Answer Refusal → ClientCall → ℕ
number_in (Ok (answer.Request n)) c = order_number (read_request (take n c.request))
number_in (Ok answer.Ignored) c = 0
number_in (Ok (answer.Closed w)) c = 0
number_in (Err r) c = 0

abbrev pub outcome_of : ClientCall → Outcome
outcome_of c = outcome_by c.answer c

-- data of so many bytes
abbrev pub bytes : ℕ → List ℕ
bytes n = replicate n 7

-- "12 lent bytes", a file buffer of 7,936 at first, a request buffer of 303
abbrev pub lending : ℕ → List ℕ → Lent
lending payload file = lent_of clock (bytes 12) (bytes payload) file (replicate 303 0)

abbrev pub lending_at : ℕ → ℕ → ℕ → ℕ → Lent
lending_at time payload file request = lent_of time (bytes 12) (bytes payload) (replicate file 0) (replicate request 0)

-- one event after the other, with a payload of so many bytes
unfoldable pub after : ℕ → List Event → ClientCall → ClientCall
after n [] c = c
after n (arrives r d ∷ l) c = after n l (reply_call c.run (frame_of r d) (lending n c.file))
after n (silence ∷ l) c = after n l (no_reply_call c.run (lending n c.file))

-- card 11: "told its edition, and in 2.4 its number, at begin"
abbrev pub told : Edition → ℕ → RunTerms
told edition number = record { edition = edition; number = number }

abbrev pub choosing : RunTerms
choosing = told V24 (order_number_of 7)

-- the last call of a run of subscriber 1 with a payload of so many bytes, begun with these terms under 7
abbrev pub last_call : Direction → RunTerms → ℕ → List Event → ClientCall
last_call direction terms n events =
    after n events (begin_call not_begun (parameters_of direction 1 7 terms) (lending n (replicate 7936 0)))

abbrev pub come : OwnerCall → Outcome
come (runs direction n events) = outcome_of (last_call direction terms_of25 n events)
come (chooses n events) = outcome_of (last_call Upload choosing n events)
come (carries direction terms events) =
    let c = last_call direction terms 1 events in
    numbered (number_in c.answer c)
come (learns terms events) = numbered (last_call Upload terms 1 events).run.number
come (begins c direction subscriber first time payload file request) =
    outcome_of (begin_call c (parameters_of direction subscriber first terms_of25) (lending_at time payload file request))
come (hears c time payload file request) = outcome_of (reply_call c [] (lending_at time payload file request))
come (waits c time payload file request) = outcome_of (no_reply_call c (lending_at time payload file request))
come (reads c records) = gets (journal_call c (replicate records no_event)).number

-- a row of the table
abbrev pub Row : Type 0
Row = Case OwnerCall Outcome

-- ---- the numbers of the client's owner

-- an upload of 1 byte and a download, begun; the same, ended
abbrev pub sending : ClientRun
sending = begun (parameters_of Upload 1 7 terms_of25) 1

abbrev pub fetching : ClientRun
fetching = begun (parameters_of Download 1 7 terms_of25) 0

abbrev pub lodged : ClientRun
lodged = ended Lodged sending

abbrev pub fetched : ClientRun
fetched = ended Fetched fetching

-- columns: the run, direction, subscriber, first exchange number, time; bytes of payload, file buffer, request buffer
unfoldable pub begin_cases : List Row
begin_cases =
    -- 1 before 5: card 3, "Values over 253,402,300,799,999 ... as bank or client time number 1", no payload
    (begins not_begun Upload 1 7 253402300800000 0 7936 303 gives gets 1)
    -- 5 before 6: no payload, "first exchange number over" 4,294,967,104
    ∷ (begins not_begun Upload 1 4294967105 clock 0 7936 303 gives gets 5)
    -- 6 before 7: "subscriber not 1 to 8"
    ∷ (begins not_begun Upload 9 4294967105 clock 1 7936 303 gives gets 6)
    -- 7 before 8: "begin comes to one already begun"
    ∷ (begins sending Upload 9 7 clock 1 7936 303 gives gets 7)
    -- 8: begun, or ended
    ∷ (begins sending Upload 1 7 clock 1 7936 303 gives gets 8)
    ∷ (begins lodged Upload 1 7 clock 1 7936 303 gives gets 8)
    -- each limit: the time
    ∷ (begins not_begun Upload 1 7 253402300799999 1 7936 303 gives issues 1 0)
    -- "an upload's payload of 0 or over" 7,936 "bytes"; "upload runs ignore the file buffer"
    ∷ (begins not_begun Upload 1 7 clock 0 7936 303 gives gets 5)
    ∷ (begins not_begun Upload 1 7 clock 1 0 303 gives issues 1 0)
    ∷ (begins not_begun Upload 1 7 clock 7936 0 303 gives issues 1 0)
    ∷ (begins not_begun Upload 1 7 clock 7937 0 303 gives gets 5)
    -- "a download's file buffer not" 7,936; "download runs the payload"
    ∷ (begins not_begun Download 1 7 clock 0 7935 303 gives gets 5)
    ∷ (begins not_begun Download 1 7 clock 0 7936 303 gives issues 1 0)
    ∷ (begins not_begun Download 1 7 clock 7937 7936 303 gives issues 1 0)
    ∷ (begins not_begun Download 1 7 clock 1 7937 303 gives gets 5)
    -- "request buffer under 303"
    ∷ (begins not_begun Upload 1 7 clock 1 7936 302 gives gets 5)
    ∷ (begins not_begun Download 1 7 clock 0 7936 302 gives gets 5)
    ∷ (begins not_begun Upload 1 7 clock 1 7936 304 gives issues 1 0)
    -- the first exchange number, and the subscriber
    ∷ (begins not_begun Upload 1 4294967104 clock 1 7936 303 gives issues 1 0)
    ∷ (begins not_begun Upload 1 4294967105 clock 1 7936 303 gives gets 6)
    ∷ (begins not_begun Upload 0 7 clock 1 7936 303 gives gets 7)
    ∷ (begins not_begun Upload 8 7 clock 1 7936 303 gives issues 1 0)
    ∷ (begins not_begun Upload 9 7 clock 1 7936 303 gives gets 7)
    ∷ []

-- columns: the run, the time; bytes of payload, file buffer, request buffer
unfoldable pub run_cases : List Row
run_cases =
    -- 1 before 5
    (hears sending 253402300800000 2 7936 303 gives gets 1)
    ∷ (waits sending 253402300800000 2 7936 303 gives gets 1)
    -- 5 before 8: "payload ... of changed length", "file buffer not" 7,936, "request buffer under 303"; "the run has
    -- ended", "another call to one not begun"
    ∷ (hears lodged clock 2 7936 303 gives gets 5)
    ∷ (waits fetched clock 0 7935 303 gives gets 5)
    ∷ (hears not_begun clock 0 7936 302 gives gets 5)
    ∷ (waits not_begun clock 0 7936 302 gives gets 5)
    -- 5
    ∷ (hears sending clock 2 7936 303 gives gets 5)
    ∷ (waits sending clock 0 7936 303 gives gets 5)
    ∷ (hears fetching clock 0 7937 303 gives gets 5)
    ∷ (waits fetching clock 0 7936 302 gives gets 5)
    -- 8
    ∷ (hears lodged clock 1 7936 303 gives gets 8)
    ∷ (waits fetched clock 0 7936 303 gives gets 8)
    ∷ (hears not_begun clock 0 7936 303 gives gets 8)
    ∷ (waits not_begun clock 0 7936 303 gives gets 8)
    -- none: an unreadable reply is ignored, no reply repeats the request
    ∷ (hears sending 253402300799999 1 0 303 gives ignores)
    ∷ (waits sending 253402300799999 1 0 303 gives issues 1 0)
    ∷ (waits fetching clock 9999 7936 303 gives issues 1 0)
    -- the journal: "a lent row of 64 records", and "never gets number 8"
    ∷ (reads lodged 63 gives gets 1)
    ∷ (reads lodged 65 gives gets 1)
    ∷ (reads lodged 64 gives gets 0)
    ∷ (reads not_begun 64 gives gets 0)
    ∷ []

-- ---- replies: the right one under an exchange number, and one field of it wrong

-- of another phase, transaction, segment or code
abbrev pub of_phase : ℕ → Fields → Fields
of_phase = with phase_tag

abbrev pub of_another : Fields → Fields
of_another = with_wide transaction_tag (id_of 6)

abbrev pub of_segment : ℕ → Fields → Fields
of_segment = with segment_tag

abbrev pub of_code : ℕ → Fields → Fields
of_code n = with return_code_tag (six n)

-- without data, and with so many bytes
abbrev pub comes : Fields → Event
comes r = arrives r []

abbrev pub brings : Fields → ℕ → Event
brings r n = arrives r (bytes n)

-- the opening under 7 is answered: the run has transaction 5
abbrev pub upload_is : Fields
upload_is = upload_opened 7 (id_of 5) (order_number_of 0)

-- "the reply leaves 0E out"
abbrev pub chosen_is : Fields
chosen_is = chosen_opened 7 (id_of 5)

-- a segment is taken, a recovery point, a download's segment with a last mark
abbrev pub took : ℕ → ℕ → Fields
took exchange s = segment_taken exchange (id_of 5) s

abbrev pub point : ℕ → ℕ → ℕ → Fields
point phase exchange r = recovery_point phase exchange (id_of 5) r

abbrev pub part : ℕ → ℕ → ℕ → Fields
part exchange s last_mark = download_segment exchange (id_of 5) s last_mark

-- ---- an upload

-- of 257 bytes, so 2 segments: its opening is outstanding; segment 1, under 8; segment 2, under 9
abbrev pub opening : Event → OwnerCall
opening e = runs Upload 257 (e ∷ [])

abbrev pub first : Event → OwnerCall
first e = runs Upload 257 (comes upload_is ∷ e ∷ [])

abbrev pub last : Event → OwnerCall
last e = runs Upload 257 (comes upload_is ∷ comes (took 8 1) ∷ e ∷ [])

unfoldable pub upload_cases : List Row
upload_cases =
    -- "A reply fits only in its step's form, with code 000000 ..., with that step's phase"
    (opening (comes upload_is) gives issues 2 1)
    ∷ (opening (comes (of_phase 2 upload_is)) gives closes NotLodged)
    ∷ (opening (comes (of_code 011000 upload_is)) gives closes NotLodged)
    ∷ (opening (comes (of_phase 1 (took 7 1))) gives closes NotLodged)
    -- "No 061101 fits an opening"
    ∷ (opening (comes (point 1 7 0)) gives closes NotLodged)
    -- "unreadable or lacks the outstanding request's exchange number is ignored"
    ∷ (opening (comes unreadable) gives ignores)
    ∷ (opening (comes no_fields) gives ignores)
    ∷ (opening (comes (upload_opened 8 (id_of 5) (order_number_of 0))) gives ignores)
    -- "the run's transaction ID once one is known and the segment number requested"
    ∷ (first (comes (took 8 1)) gives issues 2 2)
    ∷ (first (comes (took 9 1)) gives ignores)
    ∷ (first (comes (of_another (took 8 1))) gives closes NotLodged)
    ∷ (first (comes (of_phase 1 (took 8 1))) gives closes NotLodged)
    ∷ (first (comes (took 8 2)) gives closes NotLodged)
    ∷ (first (comes (of_code 011000 (took 8 1))) gives closes NotLodged)
    ∷ (first (brings (part 8 1 0) 1) gives closes NotLodged)
    -- "lodged (segment N answered 000000)"
    ∷ (last (comes (took 9 2)) gives closes Lodged)
    ∷ (last (comes (took 8 2)) gives ignores)
    ∷ (last (comes (of_another (took 9 2))) gives closes Unclear)
    ∷ (last (comes (of_phase 1 (took 9 2))) gives closes Unclear)
    ∷ (last (comes (took 9 1)) gives closes Unclear)
    ∷ (last (comes (of_code 011000 (took 9 2))) gives closes Unclear)
    ∷ (last (brings (part 9 2 1) 1) gives closes Unclear)
    -- "061101 with r leads to segment r + 1", with "its point's phase": "1 for segment 0 of an upload, else 2"
    ∷ (last (comes (point 1 9 0)) gives issues 2 1)
    ∷ (last (comes (point 2 9 1)) gives issues 2 2)
    ∷ (last (comes (point 2 9 0)) gives closes Unclear)
    ∷ (last (comes (point 1 9 1)) gives closes Unclear)
    ∷ (last (comes (of_another (point 2 9 1))) gives closes Unclear)
    ∷ (last (brings (of_code 061101 (part 9 1 0)) 1) gives closes Unclear)
    -- "in an upload if r < N and segment r + 1 was issued or is next": of 3 segments, 1 is issued and 2 is next
    ∷ (last (comes (point 2 9 2)) gives closes Unclear)
    ∷ (runs Upload 513 (comes upload_is ∷ comes (point 2 8 1) ∷ []) gives issues 2 2)
    ∷ (runs Upload 513 (comes upload_is ∷ comes (point 2 8 2) ∷ []) gives closes NotLodged)
    -- "These repeats and returns number at most five; the sixth ends the run"
    ∷ (runs Upload 257 (replicate 5 silence) gives issues 1 0)
    ∷ (runs Upload 257 (replicate 6 silence) gives closes NotLodged)
    ∷ (runs Upload 1 (comes upload_is ∷ replicate 5 silence) gives issues 2 1)
    ∷ (runs Upload 1 (comes upload_is ∷ replicate 6 silence) gives closes Unclear)
    ∷ (runs Upload 1 (comes upload_is ∷ comes (point 1 8 0) ∷ replicate 4 silence) gives issues 2 1)
    ∷ (runs Upload 1 (comes upload_is ∷ comes (point 1 8 0) ∷ replicate 5 silence) gives closes Unclear)
    ∷ (runs Upload 1 (comes upload_is ∷ (replicate 5 silence ++ (comes (point 1 13 0) ∷ []))) gives closes Unclear)
    ∷ []

-- card 11: "An upload run is told its edition, and in 2.4 its number, at begin"
unfoldable pub edition_cases : List Row
edition_cases =
    -- the opening brings the number, any four bytes, and the same again where it is repeated
    (carries Upload choosing [] gives numbered (order_number_of 7))
    ∷ (carries Upload choosing (silence ∷ []) gives numbered (order_number_of 7))
    ∷ (carries Upload choosing (replicate 5 silence) gives numbered (order_number_of 7))
    ∷ (carries Upload (told V24 4294967295) [] gives numbered 4294967295)
    -- edition 2.5 and downloads leave it out
    ∷ (carries Upload (told V25 (order_number_of 7)) [] gives numbered 0)
    ∷ (carries Download choosing [] gives numbered 0)
    -- "the reply leaves 0E out": 01 03 08 0D, of phase 1, with 000000
    ∷ (chooses 257 (comes chosen_is ∷ []) gives issues 2 1)
    ∷ (chooses 257 (comes (of_phase 2 chosen_is) ∷ []) gives closes NotLodged)
    ∷ (chooses 257 (comes (of_phase 3 chosen_is) ∷ []) gives closes NotLodged)
    ∷ (chooses 257 (comes (of_code 011000 chosen_is) ∷ []) gives closes NotLodged)
    ∷ (chooses 257 (comes (receipt_answered 7 (id_of 5) code.DownloadPostprocessDone) ∷ []) gives closes NotLodged)
    ∷ (chooses 257 (comes (point 1 7 0) ∷ []) gives closes NotLodged)
    ∷ (chooses 257 (comes (chosen_opened 8 (id_of 5)) ∷ []) gives ignores)
    -- a run takes only its edition's reply
    ∷ (chooses 257 (comes upload_is ∷ []) gives closes NotLodged)
    ∷ (opening (comes chosen_is) gives closes NotLodged)
    -- the run has the number that it brought, in 2.5 the reply's
    ∷ (learns choosing (comes chosen_is ∷ []) gives numbered (order_number_of 7))
    ∷ (learns (told V25 (order_number_of 7)) (comes upload_is ∷ []) gives numbered (order_number_of 0))
    -- "one held ... with 091115": of the opening, and of the repeated one where the first was accepted
    ∷ (chooses 257 (comes (refusal 1 7 code.OrderIdAlreadyExists) ∷ []) gives closes NotLodged)
    ∷ (chooses 257 (silence ∷ comes (refusal 1 8 code.OrderIdAlreadyExists) ∷ []) gives closes NotLodged)
    ∷ (chooses 257 (replicate 5 silence) gives issues 1 0)
    ∷ (chooses 257 (replicate 6 silence) gives closes NotLodged)
    -- then as ever
    ∷ (chooses 1 (comes chosen_is ∷ comes (took 8 1) ∷ []) gives closes Lodged)
    ∷ (chooses 1 (comes chosen_is ∷ comes (of_another (took 8 1)) ∷ []) gives closes Unclear)
    ∷ []

-- segment N is issued and gets a reply 01 03 0D of a phase with a code: an upload of 1 byte
abbrev pub refused : ℕ → ReturnCode → OwnerCall
refused phase c = runs Upload 1 (comes upload_is ∷ comes (refusal phase 8 c) ∷ [])

-- "not lodged (segment N never issued, or ended by a reply 01 03 0D of phase 2 with 091102, 091104 or 011101); else
-- unclear"
unfoldable pub not_lodged_cases : List Row
not_lodged_cases =
    (refused 2 code.TransactionAbort gives closes NotLodged)
    ∷ (refused 2 code.SegmentNumberExceeded gives closes NotLodged)
    ∷ (refused 2 code.SegmentNumberUnderrun gives closes NotLodged)
    -- and by no other code
    ∷ (refused 2 code.Ok gives closes Unclear)
    ∷ (refused 2 code.DownloadPostprocessDone gives closes Unclear)
    ∷ (refused 2 code.DownloadPostprocessSkipped gives closes Unclear)
    ∷ (refused 2 code.InvalidRequest gives closes Unclear)
    ∷ (refused 2 code.InternalError gives closes Unclear)
    ∷ (refused 2 code.RecoverySync gives closes Unclear)
    ∷ (refused 2 code.NoDownloadDataAvailable gives closes Unclear)
    ∷ (refused 2 code.UserUnknown gives closes Unclear)
    ∷ (refused 2 code.InvalidOrderType gives closes Unclear)
    ∷ (refused 2 code.SegmentSizeExceeded gives closes Unclear)
    ∷ (refused 2 code.InvalidXml gives closes Unclear)
    ∷ (refused 2 code.UnknownTransaction gives closes Unclear)
    ∷ (refused 2 code.MessageReplay gives closes Unclear)
    ∷ (refused 2 code.OrderIdUnknown gives closes Unclear)
    ∷ (refused 2 code.OrderIdAlreadyExists gives closes Unclear)
    ∷ (refused 2 code.MaxSegmentsExceeded gives closes Unclear)
    ∷ (refused 2 code.MaxTransactionsExceeded gives closes Unclear)
    -- of phase 2, and in no other form
    ∷ (refused 1 code.TransactionAbort gives closes Unclear)
    ∷ (refused 3 code.SegmentNumberExceeded gives closes Unclear)
    ∷ (refused 1 code.SegmentNumberUnderrun gives closes Unclear)
    ∷ (runs Upload 1 (comes upload_is ∷ comes (of_code 091102 (took 8 1)) ∷ []) gives closes Unclear)
    -- segment N not issued
    ∷ (opening (comes (refusal 1 7 code.InternalError)) gives closes NotLodged)
    ∷ (first (comes (refusal 2 8 code.UnknownTransaction)) gives closes NotLodged)
    ∷ (last (comes (refusal 2 9 code.UnknownTransaction)) gives closes Unclear)
    ∷ []

-- ---- a download

-- its opening is answered: of n segments, with the last mark of segment 1
abbrev pub download_is : ℕ → ℕ → Fields
download_is n last_mark = download_opened 7 n (id_of 5) last_mark

abbrev pub asked : Event → OwnerCall
asked e = runs Download 0 (e ∷ [])

-- segment 2 of n is outstanding, under 8
abbrev pub second : ℕ → Event → OwnerCall
second n e = runs Download 0 (brings (download_is n 0) 256 ∷ e ∷ [])

-- the receipt of a file of 1 segment is outstanding, under 8
abbrev pub receipted : Event → OwnerCall
receipted e = runs Download 0 (brings (download_is 1 1) 1 ∷ e ∷ [])

abbrev pub done : Fields
done = receipt_answered 8 (id_of 5) code.DownloadPostprocessDone

unfoldable pub download_cases : List Row
download_cases =
    -- "a download's N must be 1 to" 31, "its data 256 bytes before segment N, 1 to 256 in it, with last mark 1 there
    -- only"
    (asked (brings (download_is 2 0) 256) gives issues 2 2)
    ∷ (asked (brings (download_is 31 0) 256) gives issues 2 2)
    ∷ (asked (brings (download_is 1 1) 1) gives issues 3 0)
    ∷ (asked (brings (download_is 1 1) 256) gives issues 3 0)
    ∷ (asked (brings (download_is 0 0) 256) gives closes NotFetched)
    ∷ (asked (brings (download_is 32 0) 256) gives closes NotFetched)
    ∷ (asked (brings (download_is 2 1) 256) gives closes NotFetched)
    ∷ (asked (brings (download_is 1 0) 256) gives closes NotFetched)
    ∷ (asked (brings (download_is 2 0) 255) gives closes NotFetched)
    ∷ (asked (brings (download_is 2 0) 257) gives closes NotFetched)
    ∷ (asked (brings (download_is 1 1) 257) gives closes NotFetched)
    ∷ (asked (brings (of_phase 2 (download_is 2 0)) 256) gives closes NotFetched)
    ∷ (asked (brings (of_segment 2 (download_is 2 0)) 256) gives closes NotFetched)
    ∷ (asked (brings (of_code 011000 (download_is 2 0)) 256) gives closes NotFetched)
    ∷ (asked (brings (part 7 1 0) 256) gives closes NotFetched)
    ∷ (asked (comes (refusal 1 7 code.NoDownloadDataAvailable)) gives closes NotFetched)
    -- no data is no form
    ∷ (asked (brings (download_is 2 0) 0) gives ignores)
    -- segment 2 of 3
    ∷ (second 3 (brings (part 8 2 0) 256) gives issues 2 3)
    ∷ (second 3 (brings (part 9 2 0) 256) gives ignores)
    ∷ (second 3 (brings (part 8 2 1) 256) gives closes NotFetched)
    ∷ (second 3 (brings (part 8 2 0) 255) gives closes NotFetched)
    ∷ (second 3 (brings (part 8 2 0) 257) gives closes NotFetched)
    ∷ (second 3 (brings (of_another (part 8 2 0)) 256) gives closes NotFetched)
    ∷ (second 3 (brings (of_phase 1 (part 8 2 0)) 256) gives closes NotFetched)
    ∷ (second 3 (brings (part 8 1 0) 256) gives closes NotFetched)
    ∷ (second 3 (brings (part 8 3 0) 256) gives closes NotFetched)
    ∷ (second 3 (brings (of_code 011000 (part 8 2 0)) 256) gives closes NotFetched)
    ∷ (second 3 (brings (of_phase 2 (of_segment 2 (download_opened 8 3 (id_of 5) 0))) 256) gives closes NotFetched)
    -- segment 2 of 2
    ∷ (second 2 (brings (part 8 2 1) 1) gives issues 3 0)
    ∷ (second 2 (brings (part 8 2 1) 256) gives issues 3 0)
    ∷ (second 2 (brings (part 8 2 0) 256) gives closes NotFetched)
    ∷ (second 2 (brings (part 8 2 1) 257) gives closes NotFetched)
    -- "fetched (011000); held, unconfirmed (a receipt was issued); else not fetched"
    ∷ (receipted (comes done) gives closes Fetched)
    ∷ (receipted (comes (of_code 011001 done)) gives closes HeldUnconfirmed)
    ∷ (receipted (comes (of_code 000000 done)) gives closes HeldUnconfirmed)
    ∷ (receipted (comes (of_another done)) gives closes HeldUnconfirmed)
    ∷ (receipted (comes (of_phase 2 done)) gives closes HeldUnconfirmed)
    ∷ (receipted (comes (of_phase 3 (of_code 011000 (took 8 1)))) gives closes HeldUnconfirmed)
    ∷ (receipted (comes (refusal 3 8 code.UnknownTransaction)) gives closes HeldUnconfirmed)
    -- card 10: 061101 "ends the run like any other ill-fitting one"
    ∷ (second 2 (comes (point 1 8 1)) gives closes NotFetched)
    ∷ (second 2 (comes (point 2 8 1)) gives closes NotFetched)
    ∷ (receipted (comes (point 1 8 1)) gives closes HeldUnconfirmed)
    ∷ (receipted (comes (point 2 8 1)) gives closes HeldUnconfirmed)
    -- the sixth repeat
    ∷ (runs Download 0 (replicate 5 silence) gives issues 1 0)
    ∷ (runs Download 0 (replicate 6 silence) gives closes NotFetched)
    ∷ (runs Download 0 (brings (download_is 1 1) 1 ∷ replicate 5 silence) gives issues 3 0)
    ∷ (runs Download 0 (brings (download_is 1 1) 1 ∷ replicate 6 silence) gives closes HeldUnconfirmed)
    ∷ []

unfoldable pub client_cases : List Row
client_cases = begin_cases ++ (run_cases ++ (upload_cases ++ (edition_cases ++ (not_lodged_cases ++ download_cases))))
