-- The conditions of one record of an admitted image, each under its label.
use Rattle.std.specs.Prelude.{ℕ, ◌+◌, ◌-◌, ◌*◌, Bool, ◌&&◌, [], ◌∷◌, leb, ltb, eqb}
use Rattle.frame_table.specs.Table.{last_time}
use Rattle.message.specs.Limits.{subscribers, segment_bytes, max_segments, file_bytes, max_attempts, ful}
use Rattle.message.specs.Segments.{segments_of}
use Rattle.bank_state.specs.Limits.{idle_limit, window, series_limit}
use Rattle.journal.specs.Events.{record_count}
use Rattle.image_records.specs.declared.layout.NonceRecord.{NonceRecord}
use Rattle.image_records.specs.declared.layout.DownloadRecord.{DownloadRecord}
use Rattle.image_records.specs.declared.layout.PlaceRecord.{PlaceRecord}
use Rattle.image_records.specs.declared.layout.EventRecord.{EventRecord}
use Rattle.image_records.specs.Shapes.{all_of, implies, within, up_to}
use Rattle.image_records.specs.Layout.{open_state, booked_state}

-- the kinds of an event: "1 opened, 2 booked, 3 cancelled, 4 dropped, 5 signed"
abbrev pub last_kind : ℕ
last_kind = 5

-- the last fitting request of what is open: "last fit is at most clock, and clock is at most last fit + idle limit"
abbrev pub fit_time : ℕ → ℕ → Bool
fit_time clock last = leb last clock && leb clock (last + idle_limit)

-- ---- a nonce in use

-- nonce time: "each timestamp + window is at least clock, at most clock + window, and at most the last time"
abbrev pub nonce_time : ℕ → NonceRecord → Bool
nonce_time now n =
    all_of (leb now (n.timestamp + window) ∷ leb n.timestamp (now + window) ∷ leb n.timestamp last_time ∷ [])

-- ---- an open download

-- download subscriber: "1 to 8"
abbrev pub download_subscriber : DownloadRecord → Bool
download_subscriber d = within 1 subscribers d.subscriber

-- download delivered: "1 to N of its subscriber's mailbox, so that mailbox is not empty"
abbrev pub download_delivered : ℕ → DownloadRecord → Bool
download_delivered file d = within 1 (segments_of file) d.delivered

-- download attempts: "at most 5"
abbrev pub download_attempts : DownloadRecord → Bool
download_attempts d = leb d.attempts max_attempts

-- download time: "last fit is at most clock, and clock is at most last fit + idle limit"
abbrev pub download_time : ℕ → DownloadRecord → Bool
download_time now d = fit_time now d.last

-- download number: "running is below openings"
abbrev pub download_number : ℕ → DownloadRecord → Bool
download_number opened d = ltb d.low opened

abbrev pub download_holds : ℕ → ℕ → ℕ → DownloadRecord → Bool
download_holds now opened file d =
    all_of (download_subscriber d ∷ download_delivered file d ∷ download_attempts d ∷ download_time now d
    ∷ download_number opened d ∷ [])

-- ---- a place

abbrev pub is_open : PlaceRecord → Bool
is_open p = eqb p.state open_state

abbrev pub is_booked : PlaceRecord → Bool
is_booked p = eqb p.state booked_state

abbrev pub in_use : PlaceRecord → Bool
in_use p = ltb 0 p.state

-- place state: "0, 1 or 2"
abbrev pub place_state : PlaceRecord → Bool
place_state p = leb p.state booked_state

-- place free: "state 0: every part is 0"
abbrev pub place_free : PlaceRecord → Bool
place_free p =
    implies (eqb p.state 0)
    (all_of (eqb p.subscriber 0 ∷ eqb p.high 0 ∷ eqb p.low 0 ∷ eqb p.order 0 ∷ eqb p.segments 0
    ∷ eqb p.taken 0 ∷ eqb p.attempts 0 ∷ eqb p.last 0 ∷ eqb p.length 0 ∷ eqb p.signers 0 ∷ []))

-- place subscriber: "state 1 or 2: 1 to 8"
abbrev pub place_subscriber : PlaceRecord → Bool
place_subscriber p = implies (in_use p) (within 1 subscribers p.subscriber)

-- place number: "state 1 or 2: running is below openings"
abbrev pub place_number : ℕ → PlaceRecord → Bool
place_number opened p = implies (in_use p) (ltb p.low opened)

-- place order: "state 1 or 2: the order number is below" 1,213,056: any of A000 to ZZZZ, as the client may choose it
abbrev pub place_order : PlaceRecord → Bool
place_order p = implies (in_use p) (ltb p.order series_limit)

-- upload segments: "state 1: .. 1 to 31"
abbrev pub upload_segments : PlaceRecord → Bool
upload_segments p = implies (is_open p) (within 1 max_segments p.segments)

-- upload taken: "state 1: below segments"
abbrev pub upload_taken : PlaceRecord → Bool
upload_taken p = implies (is_open p) (ltb p.taken p.segments)

-- upload attempts: "state 1: at most 5"
abbrev pub upload_attempts : PlaceRecord → Bool
upload_attempts p = implies (is_open p) (leb p.attempts max_attempts)

-- upload time: "state 1: as for downloads"
abbrev pub upload_time : ℕ → PlaceRecord → Bool
upload_time now p = implies (is_open p) (fit_time now p.last)

-- upload length: "state 1: from taken to 256 times taken"
abbrev pub upload_length : PlaceRecord → Bool
upload_length p = implies (is_open p) (within p.taken (segment_bytes * p.taken) p.length)

-- upload signers: "state 1: signers are 0"
abbrev pub upload_signers : PlaceRecord → Bool
upload_signers p = implies (is_open p) (eqb p.signers 0)

-- booked length: "state 2: .. 1 to 7,936"
abbrev pub booked_length : PlaceRecord → Bool
booked_length p = implies (is_booked p) (within 1 file_bytes p.length)

-- booked rest: "state 2: segments, taken, attempts and last fit are 0"
abbrev pub booked_rest : PlaceRecord → Bool
booked_rest p =
    implies (is_booked p)
    (all_of (eqb p.segments 0 ∷ eqb p.taken 0 ∷ eqb p.attempts 0 ∷ eqb p.last 0 ∷ []))

abbrev pub place_holds : ℕ → ℕ → PlaceRecord → Bool
place_holds now opened p =
    all_of (place_state p ∷ place_free p ∷ place_subscriber p ∷ place_number opened p ∷ place_order p ∷ upload_segments p
    ∷ upload_taken p ∷ upload_attempts p ∷ upload_time now p ∷ upload_length p ∷ upload_signers p ∷ booked_length p
    ∷ booked_rest p ∷ [])

-- ---- a used event

-- event number: "used event i (from 0) has number 05 - used + 1 + i"
abbrev pub event_number : ℕ → ℕ → EventRecord → Bool
event_number entered i e = eqb e.number (entered - up_to record_count entered + 1 + i)

-- event clock: "at most clock; no used event's clock is below the one before"
abbrev pub event_clock : ℕ → EventRecord → EventRecord → Bool
event_clock now before e = leb e.clock now && leb before.clock e.clock

-- event subscriber: "1 to 8"
abbrev pub event_subscriber : EventRecord → Bool
event_subscriber e = within 1 subscribers e.subscriber

-- event type: "FUL"
abbrev pub event_type : EventRecord → Bool
event_type e = eqb e.order_type ful

-- event order: "below" 1,213,056: any of A000 to ZZZZ
abbrev pub event_order : EventRecord → Bool
event_order e = ltb e.order series_limit

-- event running: "running is below openings"
abbrev pub event_running : ℕ → EventRecord → Bool
event_running opened e = ltb e.low opened

-- event kind: "1 to 5"
abbrev pub event_kind : EventRecord → Bool
event_kind e = within 1 last_kind e.kind

abbrev pub event_holds : ℕ → ℕ → ℕ → ℕ → EventRecord → EventRecord → Bool
event_holds now opened entered i before e =
    all_of (event_number entered i e ∷ event_clock now before e ∷ event_subscriber e ∷ event_type e ∷ event_order e
    ∷ event_running opened e ∷ event_kind e ∷ [])
