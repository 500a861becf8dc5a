-- Computed examples of demand 3: lists that meet its premises, what they come to, and the theorem applied to them.
use Rattle.std.specs.Prelude.{Ok}
use Prim.Native.Nat.{ℕ, ◌+◌, ◌-◌, ◌^◌}
use mathlib.Core.Bool.{true, cond}
use mathlib.Core.List.Memᴰ.{not-nil as in-none}
use mathlib.Core.List.{List, [], ◌∷◌, ◌++◌, map, Memᴰ as In}
use mathlib.Core.Logic.{inl, inr}
use mathlib.Core.Path.{◌≡◌, refl, sym, ap, ◌∙◌, subst}
use native.Mathlib.Omega.{arith}
use lib.ListN.{length, take, replicate}
use Rattle.frame_table.specs.Forms as forms
use Rattle.frame_table.specs.Names.{segment, return_code, form}
use Rattle.frame_table.specs.Table.{last_time}
use Rattle.frame_reader.specs.Reader.{read_request, read_reply}
use Rattle.frame_writer.specs.Writer.{frame_of}
use Rattle.message.specs.declared.codes.ReturnCode.TheVariants as code
use Rattle.message.specs.Codes.{code_field}
use Rattle.message.specs.OrderNumbers.{order_number_of}
use Rattle.message.specs.Requests.{signing}
use Rattle.message.specs.Segments.{segments_of}
use Rattle.signers.specs.Signers.{count_from, signer_count, is_released}
use Rattle.journal.specs.declared.event.Event.{Event}
use Rattle.journal.specs.declared.event.OrderName.{OrderName}
use Rattle.journal.specs.declared.event.Found.{Found}
use Rattle.journal.specs.declared.event.Found.TheVariants as found
use Rattle.journal.specs.Events.{max_entries}
use Rattle.journal.specs.Records.{name_of as name_in}
use Rattle.journal.specs.Row.{empty_row, with_kind, lookup}
use Rattle.bank_state.specs.declared.state.Use.TheVariants as uses
use Rattle.bank_state.specs.Limits.{place_count, store_bytes, idle_limit}
use Rattle.bank_state.specs.State.{place_at}
use Rattle.bank_admitted.specs.State.{StateHolds}
use Rattle.bank_history.specs.Signatures.{same_name}
use Rattle.bank_rows.specs.Layout.{state_size}
use Rattle.bank_steps.specs.Lent.{state_of}
use Rattle.opening_counts.specs.Counts.{seven, no_counts, most_moved}
use Rattle.bank_session.specs.Session.{LentSession, session, session_size, with_numbers, bank_in, journal_in}
use Rattle.image.specs.declared.codec.ImageRefusal.TheVariants as taken
use Rattle.image_calls.specs.Calls.{image_length, lengths_right, put_away, TakeUp, take_up_of, take_up}
use Rattle.message.specs.declared.directions.Direction.TheVariants.{Upload, Download}
use Rattle.client_run.specs.declared.run.Stage.TheVariants as stage
use Rattle.client_run.specs.declared.run.Word.{Word}
use Rattle.client_run.specs.declared.run.Word.TheVariants.{Lodged, NotLodged, Unclear, Fetched}
use Rattle.client_run.specs.Run.{not_begun, order_name}
use Rattle.exchange.specs.Course.{
  Call,
  frame_arrives,
  file_put,
  no_reply,
  takes_up,
  Exchange,
  Course,
  start,
  with_bank,
  with_journal,
  call_number,
  mailbox_of,
  held_of,
  carry_out,
  exec,
}
use Rattle.exchange.specs.Lists.{AtMostOne}
use Rattle.exchange.specs.Terms.{Opened, Books, Booked, Order, name_of, InBook, OrderOf, AllInTurn}
use Rattle.exchange.specs.Demand3.{Allowed, AllAllowed}
use Rattle.exchange.proofs.Calls.{carried, by_number}
use Rattle.exchange.proofs.Guards.{put-allowed}
use Rattle.image_calls.proofs.Again.{put-taken}
use Rattle.exchange_examples.proofs.Unfolded.{both_ends, images}
use Rattle.exchange_examples.proofs.Standing.{standing, standing-bank, standing-journal, right-start}
use Rattle.exchange_examples.proofs.Checked.{
  nth,
  has,
  not-once,
  Move,
  comes,
  stray,
  puts,
  begin,
  chooses,
  reaches,
  silent,
  hands,
  writes,
  takes,
  numbered,
  lent_at,
  lent,
  request_at,
  input_at,
  no_exchange,
  room,
  call_of,
  next,
  calls_of,
  end_of,
  is_allowed,
  AskedBy,
  allowed,
  all-allowed,
  Opens,
  is_own,
  own,
  order-met,
  outcome,
  Closed,
  closed,
}
use Rattle.exchange_examples.proofs.Quick.{quick_next, quick-frame, Meets, meets, Orders, orders}

-- ---- the lists

-- the last time at which what was fitting at 1000 is open, and the first at which it is gone
abbrev last_open : ℕ
last_open = 1000 + idle_limit

abbrev first_gone : ℕ
first_gone = last_open + 1

-- an upload of one byte, up to its opening, up to its segment, and lodged
abbrev opening_sent : List Move
opening_sent = begin 0 Upload 1 7 (65 ∷ []) ∷ comes 0 1000 ∷ []

abbrev segment_sent : List Move
segment_sent = opening_sent ++ (reaches 0 0 ∷ comes 0 1000 ∷ [])

abbrev lodging : List Move
lodging = segment_sent ++ (reaches 0 0 ∷ [])

-- its last segment comes twice
abbrev repeating : List Move
repeating = segment_sent ++ (comes 0 1000 ∷ [])

-- its last reply is lost: unclear, and the order is booked
abbrev losing : List Move
losing = segment_sent ++ replicate 6 (silent 0)

-- a download of two bytes is fetched
abbrev fetching : List Move
fetching =
    puts 1 (66 ∷ 67 ∷ []) ∷ begin 0 Download 1 7 [] ∷ comes 0 1000 ∷ reaches 0 0 ∷ comes 0 1000 ∷ reaches 0 0 ∷ []

abbrev two_segments : List ℕ
two_segments = replicate 257 68

-- memory with these numbers and this row, its stores zeroed
abbrev memory : List ℕ → List Event → LentSession
memory rows row = session rows row (replicate store_bytes 0) (replicate store_bytes 0)

-- numbers that no call leaves: more open downloads than there are records
abbrev unsound : List ℕ
unsound = replicate session_size (place_count + 1)

-- a host's calls turned away at the door, given number 1: numbers of another length and numbers that no call leaves, of
-- a file call and a frame call; a row of another length; no room for the numbers of its events; counts that cannot grow
abbrev at_door : List Move
at_door =
    numbered (file_put [] (replicate store_bytes 0) 1 (66 ∷ []))
    ∷ numbered (file_put unsound (replicate store_bytes 0) 1 (66 ∷ []))
    ∷ numbered (frame_arrives (memory [] empty_row) (input_at 1000 []))
    ∷ numbered (frame_arrives (memory unsound empty_row) (input_at 1000 []))
    ∷ numbered (frame_arrives (memory (replicate session_size 0) []) (input_at 1000 []))
    ∷ numbered (frame_arrives (memory (with_numbers (replicate state_size 0) (2 ^ 64 - max_entries) no_counts) empty_row) (input_at 1000 []))
    ∷ numbered (frame_arrives (memory (with_numbers (replicate state_size 0) 0 (seven (λ (i : ℕ). 2 ^ 64 - most_moved))) empty_row)
    (input_at 1000 []))
    ∷ []

-- an upload of 257 bytes beside one of a second subscriber
abbrev crossed : List Move
crossed =
    begin 0 Upload 1 7 two_segments
    ∷ comes 0 1000
    ∷ begin 1 Upload 2 100 (66 ∷ [])
    ∷ reaches 0 0
    ∷ comes 1 1000
    -- an unreadable frame
    ∷ stray (1 ∷ 2 ∷ 3 ∷ []) 1000
    -- the reply to run 1 reaches run 0
    ∷ reaches 0 1
    ∷ comes 0 1000
    -- a call given number 8, lent a run not begun
    ∷ numbered (no_reply 0 not_begun (lent [] []))
    -- a frame and a run's call over the last time, given number 1
    ∷ numbered (frame_arrives (memory (replicate session_size 0) empty_row) (input_at (last_time + 1) []))
    ∷ numbered (no_reply 0 not_begun (lent_at (last_time + 1) [] []))
    ∷ []

-- it goes on after calls turned away at the door
abbrev crossing : List Move
crossing =
    crossed ++ at_door
    ++ (reaches 1 2
    -- a late copy of it is ignored
    ∷ reaches 1 2
    ∷ reaches 0 0
    -- exactly the idle limit after the segment before
    ∷ comes 0 last_open
    ∷ reaches 0 0
    ∷ [])

-- a download of two segments, the second sent again
abbrev again : List Move
again =
    puts 1 two_segments
    ∷ begin 0 Download 1 7 []
    ∷ comes 0 1000
    ∷ reaches 0 0
    ∷ comes 0 1000
    ∷ silent 0
    ∷ comes 0 1000
    ∷ reaches 0 0
    ∷ comes 0 1000
    ∷ reaches 0 0
    ∷ []

-- segment 1 comes seven times: it is taken, gets 061101 five times, then 091102, which reaches the run
abbrev cancelled : List Move
cancelled = (begin 0 Upload 1 7 two_segments ∷ comes 0 1000 ∷ reaches 0 0 ∷ []) ++ replicate 7 (comes 0 1000) ++ (reaches 0 0 ∷ [])

-- the opening is accepted, no reply comes, no segment is ever issued
abbrev unsent : List Move
unsent = opening_sent ++ replicate 6 (silent 0)

-- ---- the journal

-- the same, which is handed the journal and closes as lodged
abbrev clearing : List Move
clearing = losing ++ (hands 0 ∷ [])

-- no copy of its segment comes: unclear, and the journal says that it was opened
abbrev waiting : List Move
waiting = (begin 0 Upload 1 7 (65 ∷ []) ∷ comes 0 1000 ∷ reaches 0 0 ∷ []) ++ replicate 6 (silent 0) ++ (hands 0 ∷ [])

-- its segment comes late and is booked; handed the journal again, the run closes as lodged
abbrev booking : List Move
booking = waiting ++ (comes 0 1000 ∷ hands 0 ∷ [])

-- an idle hour later its upload is dropped: handed the journal again, it closes as not lodged
abbrev dropping : List Move
dropping = waiting ++ (stray (1 ∷ 2 ∷ 3 ∷ []) first_gone ∷ hands 0 ∷ [])

-- a late copy of its segment comes then
abbrev late : List Move
late = comes 0 first_gone ∷ []

-- an order in turn whose run is handed the journal between
abbrev asking : List Move
asking = begin 0 Upload 1 7 (65 ∷ []) ∷ hands 0 ∷ comes 0 1000 ∷ reaches 0 0 ∷ hands 0 ∷ comes 0 1000 ∷ reaches 0 0 ∷ hands 0 ∷ []

-- ---- two series

-- subscriber 1's A000 is lodged, then subscriber 2's own A000
abbrev each_first : List Move
each_first =
    lodging ++ (begin 1 Upload 2 100 (66 ∷ []) ∷ comes 0 1000 ∷ reaches 1 0 ∷ comes 0 1000 ∷ reaches 1 0 ∷ [])

-- Subscriber 1's A000 is opened, no copy of its segment comes: unclear. Subscriber 2's own A000 is booked and lodged.
-- Run 0 is handed the journal: it stays unclear, the booking is not its order's
abbrev both_first : List Move
both_first =
    (begin 0 Upload 1 7 (65 ∷ []) ∷ comes 0 1000 ∷ reaches 0 0 ∷ []) ++ replicate 6 (silent 0)
    ++ (begin 1 Upload 2 100 (66 ∷ []) ∷ comes 0 1000 ∷ reaches 1 0 ∷ comes 0 1000 ∷ reaches 1 0 ∷ hands 0 ∷ [])

-- an idle hour later subscriber 1's is dropped: handed the journal again, run 0 closes as not lodged
abbrev own_series : List Move
own_series = both_first ++ (stray (1 ∷ 2 ∷ 3 ∷ []) first_gone ∷ hands 0 ∷ [])

-- ---- signings between

-- a signing of subscriber 1's A000 by subscriber u, with this nonce
abbrev signing_by : ℕ → ℕ → List ℕ
signing_by u n = frame_of (signing u 300 (record { high = 1; low = n }) 1000 (order_number_of 0) 1) []

-- An order in turn that others sign, by requests that no run issued: subscriber 2 before the booking, who is refused and
-- signs after it by the same request, and subscriber 3, twice
abbrev signed_between : List Move
signed_between =
    opening_sent
    ++ (stray (signing_by 2 1) 1000
    ∷ reaches 0 1
    ∷ comes 0 1000
    ∷ stray (signing_by 2 1) 1000
    ∷ stray (signing_by 3 2) 1000
    ∷ stray (signing_by 3 3) 1000
    ∷ reaches 0 3
    ∷ hands 0
    ∷ [])

-- ---- numbers that clients choose, edition 2.4: A000, which a cancelled or dropped order leaves to be chosen again

abbrev chosen : ℕ → ℕ → ℕ → ℕ → Move
chosen i time first byte = chooses i time 1 first (order_number_of 0) (byte ∷ [])

-- an order in turn
abbrev choosing : List Move
choosing = chosen 0 1000 7 65 ∷ comes 0 1000 ∷ reaches 0 0 ∷ comes 0 1000 ∷ reaches 0 0 ∷ []

-- its opening is accepted, no reply comes, and the opening comes again: its number is held
abbrev chosen_twice : List Move
chosen_twice = chosen 0 1000 7 65 ∷ comes 0 1000 ∷ silent 0 ∷ comes 0 1000 ∷ reaches 0 0 ∷ []

-- Run 0's segment comes after an idle hour, when its upload is dropped: unclear. Run 1 chooses the number again, and its
-- segment is booked
abbrev number_again : List Move
number_again =
    chosen 0 1000 7 65
    ∷ comes 0 1000
    ∷ reaches 0 0
    ∷ comes 0 first_gone
    ∷ reaches 0 0
    ∷ chosen 1 first_gone 100 66
    ∷ comes 0 first_gone
    ∷ reaches 1 0
    ∷ comes 0 first_gone
    ∷ []

-- the tenth call: run 0 is handed the journal, and closes as not lodged
abbrev ten_calls : List Move
ten_calls = number_again ++ (hands 0 ∷ [])

-- ---- a session put away

-- an order in turn whose session is put away and taken up
abbrev resuming : List Move
resuming = opening_sent ++ (writes ∷ takes 0 ∷ reaches 0 0 ∷ comes 0 1000 ∷ reaches 0 0 ∷ [])

-- Seven calls, one of them a taking up without its premise: begin, the opening, its reply
abbrev opening : List Move
opening = opening_sent ++ (reaches 0 0 ∷ [])

abbrev opened : Course
opened = end_of opening start

-- the session is put away
abbrev away : Call
away = call_of writes opened

-- the segment comes
abbrev sent : Course → Course
sent s = next (comes 0 1000) s

-- the session put away is taken up, after which the segment comes again
abbrev up : Call
up = takes_up (standing start) (take image_length (put_away (standing opened) room).buffer)

abbrev sent_twice : Course
sent_twice = sent (exec up (sent (exec away opened)))

-- the same, by what both calls leave: the image is written, and the bank and the journal are those of before the segment
abbrev written : Course → Course
written s = carry_out (call_of writes s) s

abbrev resumed : Course → Course → Course
resumed s t = with_bank s.bank (with_journal s.journal t)

abbrev once_more : Course
once_more = resumed opened (sent (written opened))

-- ---- what they compute to

-- the return code of the newest reply
abbrev code_now : Course → ℕ
code_now s = at s.exchanged
  where
    at : List Exchange → ℕ
    at [] = 0
    at (e ∷ l) = return_code (read_reply e.reply)

-- run 0 has closed with this word
abbrev Ended : Word → Course → Type 0
Ended w s = (s.runs 0).stage ≡ stage.Ended w

-- the first place of the book
abbrev InFirstPlace : Course → Type 0
InFirstPlace s = (place_at s.bank.bank 0).used ≡ uses.Booked

-- two runs name one order number, of two subscribers
abbrev OneNumber : Course → Type 0
OneNumber s = ((s.runs 0).number ≡ (s.runs 1).number) × ((s.runs 0).subscriber ≡ 1) × ((s.runs 1).subscriber ≡ 2)

-- run 0 holds this file
abbrev Holds : List ℕ → Course → Type 0
Holds file s = held_of (s.runs 0) (s.files 0) ≡ file

-- exchange n books the order of run 0
abbrev BooksAt : ℕ → Course → Type 0
BooksAt n s =
    let e = nth no_exchange n s.exchanged in
    (is_own 0 e.request s ≡ true) × (form (read_request e.request) ≡ forms.UploadTransfer)
    × (segment (read_request e.request) ≡ segments_of (length (s.payloads 0)))
    × (return_code (read_reply e.reply) ≡ code_field code.Ok)

books-at : (n : ℕ) (s : Course) → BooksAt n s → Books s 0 (nth no_exchange n s.exchanged)
books-at n s (copy, upload, last, ok) =
    record { copy = own 0 (nth no_exchange n s.exchanged).request s copy; upload = upload; last = last; taken = ok }

-- the segment comes after s and leaves t, once more after the taking up and leaves u: both allowed, both book the order
record SentAgain (s t u : Course) : Type 0 where
  sent-met : is_allowed (comes 0 1000) (written s) ≡ true
  sent-images : t.images ≡ []
  again-sent-met : is_allowed (comes 0 1000) (resumed s t) ≡ true
  once-more-booked : (has 1 u.exchanged ≡ true) × BooksAt 0 u × BooksAt 1 u

-- the segment comes, in fewer steps
abbrev quick_sent : Course → Course
quick_sent s = quick_next (comes 0 1000) s

record Computed : Type 0 where
  lodging-done : Orders 0 1 lodging (λ (s : Course). Opens 1 s × InFirstPlace s)
  repeating-done : Meets repeating (λ (s : Course). code_now s ≡ code_field code.UnknownTransaction)
  losing-done : Meets losing (λ (s : Course). Ended Unclear s × InFirstPlace s)
  -- the fourth call was the last before the first "no reply"
  no-reply-taken : Meets segment_sent (λ (s : Course). call_number (call_of (silent 0) s) ≡ 0)
  fetching-done : Orders 0 1 fetching (λ (s : Course). Opens 1 s × Holds (66 ∷ 67 ∷ []) s × (mailbox_of s.bank 1 ≡ []))
  crossing-done : Orders 0 4 crossing (λ (s : Course). Opens 4 s × Ended Lodged s)
  again-done : Meets again (λ (s : Course). Ended Fetched s × Holds two_segments s)
  cancelled-done : Meets cancelled (λ (s : Course). (code_now s ≡ code_field code.TransactionAbort) × Ended NotLodged s)
  unsent-done : Meets unsent (λ (s : Course). Ended NotLodged s)
  clearing-done : Meets clearing (λ (s : Course). Ended Lodged s)
  waiting-done : Meets waiting (λ (s : Course). Ended Unclear s)
  booking-done : Meets booking (λ (s : Course). Ended Lodged s × InFirstPlace s)
  dropping-done : Meets dropping (λ (s : Course). Ended NotLodged s)
  late-done : Meets (dropping ++ late) (λ (s : Course). (code_now s ≡ code_field code.UnknownTransaction) × Ended NotLodged s)
  asking-done : Orders 0 1 asking (Opens 1)
  opening-done : Meets opening (λ (s : Course). let t = quick_sent (written s) in SentAgain s t (quick_sent (resumed s t)))

computed : Computed
unfolding both_ends
computed = record {
  lodging-done = orders 0 1 lodging tt refl (inl refl, refl);
  repeating-done = meets repeating tt refl refl;
  losing-done = meets losing tt refl (refl, refl);
  no-reply-taken = meets segment_sent tt refl refl;
  fetching-done = orders 0 1 fetching tt refl (inr (inl refl), refl, refl);
  crossing-done = orders 0 4 crossing tt refl (inl refl, refl);
  again-done = meets again tt refl (refl, refl);
  cancelled-done = meets cancelled tt refl (refl, refl);
  unsent-done = meets unsent tt refl refl;
  clearing-done = meets clearing tt refl refl;
  waiting-done = meets waiting tt refl refl;
  booking-done = meets booking tt refl (refl, refl);
  dropping-done = meets dropping tt refl refl;
  late-done = meets (dropping ++ late) tt refl (refl, refl);
  asking-done = orders 0 1 asking tt refl (inl refl);
  opening-done = meets opening tt refl (record {
    sent-met = refl;
    sent-images = refl;
    again-sent-met = refl;
    once-more-booked = (refl, (refl, refl, refl, refl), (refl, refl, refl, refl));
  });
}

sent-again : SentAgain opened (sent (written opened)) (sent once_more)
sent-again =
    let o = computed.opening-done in
    let comes-so : (s : Course) → StateHolds s.bank → quick_sent s ≡ sent s = λ s v. quick-frame s v 1000 (request_at 0 s) in
    subst (SentAgain opened (sent (written opened))) (comes-so once_more o.state)
    (subst (λ (t : Course). SentAgain opened t (quick_sent (resumed opened t))) (comes-so (written opened) o.state) o.ends)

record ComputedSeries : Type 0 where
  each-first-done : Meets each_first
      (λ (s : Course). Ended Lodged s × ((s.runs 1).stage ≡ stage.Ended Lodged) × OneNumber s)
  both-first-done : Meets both_first
      (λ (s : Course). Ended Unclear s × ((s.runs 1).stage ≡ stage.Ended Lodged) × OneNumber s)
  own-series-done : Meets own_series
      (λ (s : Course). Ended NotLodged s × ((s.runs 1).stage ≡ stage.Ended Lodged) × OneNumber s)

computed-series : ComputedSeries
unfolding both_ends
computed-series = record {
  each-first-done = meets each_first tt refl (refl, refl, (refl, refl, refl));
  both-first-done = meets both_first tt refl (refl, refl, (refl, refl, refl));
  own-series-done = meets own_series tt refl (refl, refl, (refl, refl, refl));
}

-- the codes of the replies, the newest first
abbrev codes_of : Course → List ℕ
codes_of s = map (λ (e : Exchange). return_code (read_reply e.reply)) s.exchanged

record ComputedSignings : Type 0 where
  signed-between-done : Orders 0 5 signed_between
      (λ (s : Course). Opens 5 s
      × (codes_of s ≡ map code_field (code.Ok ∷ code.Ok ∷ code.Ok ∷ code.Ok ∷ code.OrderIdUnknown ∷ code.Ok ∷ []))
      × InFirstPlace s × (is_released (place_at s.bank.bank 0).signers ≡ true) × (s.journal.events ≡ 4))

computed-signings : ComputedSignings
unfolding both_ends is_released signer_count count_from
computed-signings = record {
  signed-between-done = orders 0 5 signed_between tt refl (inl refl, refl, refl, refl, refl);
}

-- what the row would say if records were told apart by subscriber, type and number
abbrev lookup_by_name : OrderName → List Event → Found
lookup_by_name o [] = found.Nothing
lookup_by_name o (e ∷ es) = cond (same_name (name_in e) o) (with_kind e.kind (lookup_by_name o es)) (lookup_by_name o es)

record ComputedChoices : Type 0 where
  choosing-done : Orders 0 1 choosing (λ (s : Course). Opens 1 s × InFirstPlace s)
  chosen-twice-done : Meets chosen_twice (λ (s : Course). (code_now s ≡ code_field code.OrderIdAlreadyExists) × Ended NotLodged s)
  number-again-done : Meets number_again (λ (s : Course). Ended Unclear s × InFirstPlace s
      × (codes_of s ≡ map code_field (code.Ok ∷ code.Ok ∷ code.UnknownTransaction ∷ code.Ok ∷ []))
      × (order_name (s.runs 0) ≡ order_name (s.runs 1))
      -- by name the booking is found; by the transaction ID the drop
      × (lookup_by_name (order_name (s.runs 0)) s.journal.row ≡ found.Booked)
      × (lookup (s.runs 0).transaction s.journal.row ≡ found.Ended))
  ten-calls-done : Meets ten_calls (λ (s : Course). Ended NotLodged s)

computed-choices : ComputedChoices
unfolding both_ends same_name
computed-choices = record {
  choosing-done = orders 0 1 choosing tt refl (inr (inr refl), refl);
  chosen-twice-done = meets chosen_twice tt refl (refl, refl);
  number-again-done = meets number_again tt refl (refl, refl, refl, refl, refl, refl);
  ten-calls-done = meets ten_calls tt refl refl;
}

-- ---- with the image's bytes

resuming-asked : AskedBy quick_next resuming start
unfolding both_ends images
resuming-asked = (refl, tt)

resuming-done : Orders 0 1 resuming (Opens 1)
unfolding both_ends
resuming-done = orders 0 1 resuming resuming-asked refl (inl refl)

-- the reply changes neither the bank nor the journal: the session is put away then too
away-done : call_number away ≡ 0
away-done =
    let s = end_of opening_sent start in
    let z = resuming-done.all_asked.0 in
    by_number (call_of (reaches 0 0) s) s (λ (t : Course). call_number (call_of writes t) ≡ 0) z (λ _. z)

-- what is put away is the bank and the journal that stand
away-bank : state_of (bank_in (standing opened)) ≡ opened.bank
away-bank = standing-bank opened computed.opening-done.state

away-journal : journal_in (standing opened) ≡ opened.journal
away-journal = standing-journal opened computed.opening-done.state

-- the memory of a fresh bank has the lengths to take it up
fresh-long : lengths_right (standing start) ≡ true
unfolding both_ends images
fresh-long = refl

-- ---- the theorem applied

lodging-closed : Closed 0 (end_of lodging start)
lodging-closed = closed 0 1 lodging tt computed.lodging-done.in_order computed.lodging-done.ends.0

-- a call of "no reply" that is given no number is not in turn
losing-not-in-turn : AllInTurn 0 (calls_of losing start) start → ⊥
losing-not-in-turn h = h.2.2.2.2.1 computed.no-reply-taken.ends refl

-- "closing words hold whoever signs"
signed-between-closed : Closed 0 (end_of signed_between start)
signed-between-closed =
    closed 0 5 signed_between tt computed-signings.signed-between-done.in_order computed-signings.signed-between-done.ends.0

fetching-closed : Closed 0 (end_of fetching start)
fetching-closed = closed 0 1 fetching tt computed.fetching-done.in_order computed.fetching-done.ends.0

crossing-closed : Closed 0 (end_of crossing start)
crossing-closed = closed 0 4 crossing tt computed.crossing-done.in_order computed.crossing-done.ends.0

-- and its order is in the book, with its bytes, under the subscriber, type and number that the run names
crossing-booked : let s = end_of crossing start in
    (j : ℕ) × (o : Order) × InBook s j o × OrderOf s 0 o × (name_of o ≡ order_name (s.runs 0))
crossing-booked =
    ((outcome crossing tt (order-met 0 4 crossing start computed.crossing-done.in_order)).lodged 0 computed.crossing-done.ends.1).1

-- the whole file is the mailbox's at the opening, of which the run holds every byte
again-fetched : (e : Exchange) × Opened forms.DownloadOpened (end_of again start) 0 e × (two_segments ≡ e.box)
again-fetched =
    let o = (outcome again tt computed.again-done.met).fetched 0 computed.again-done.ends.0 in
    (o.0, o.1, sym computed.again-done.ends.1 ∙ o.3)

cancelled-unbooked : Booked (end_of cancelled start) 0 → ⊥
cancelled-unbooked = (outcome cancelled tt computed.cancelled-done.met).not_lodged 0 computed.cancelled-done.ends.1

unsent-unbooked : Booked (end_of unsent start) 0 → ⊥
unsent-unbooked = (outcome unsent tt computed.unsent-done.met).not_lodged 0 computed.unsent-done.ends

-- a run that the journal closed as lodged names its order
clearing-booked : (j : ℕ) × (o : Order) × InBook (end_of clearing start) j o × OrderOf (end_of clearing start) 0 o
clearing-booked =
    let o = ((outcome clearing tt computed.clearing-done.met).lodged 0 computed.clearing-done.ends).1 in
    (o.0, o.1, o.2, o.3)

-- one that it closed as not lodged is not booked, by a late copy of its segment neither
late-unbooked : Booked (end_of (dropping ++ late) start) 0 → ⊥
late-unbooked = (outcome (dropping ++ late) tt computed.late-done.met).not_lodged 0 computed.late-done.ends.1

-- one that stays unclear may still be booked
booking-booked : Booked (end_of booking start) 0
booking-booked = ((outcome booking tt computed.booking-done.met).lodged 0 computed.booking-done.ends.0).0

-- both are in the book, under one number, in two places
each-first-booked : let s = end_of each_first start in
    (j : ℕ) × (j' : ℕ) × (o : Order) × (o' : Order) × InBook s j o × InBook s j' o' × (o.number ≡ o'.number) × (j ≡ j' → ⊥)
each-first-booked =
    let s = end_of each_first start in
    let k = outcome each_first tt computed-series.each-first-done.met in
    let (same, first, second) = computed-series.each-first-done.ends.2 in
    let (j, o, a, c, n) = (k.lodged 0 computed-series.each-first-done.ends.0).1 in
    let (j', o', b, d, m) = (k.lodged 1 computed-series.each-first-done.ends.1).1 in (
      j,
      j',
      o,
      o',
      a,
      b,
      ap (λ (x : OrderName). x.number) n ∙ same ∙ sym (ap (λ (x : OrderName). x.number) m),
      λ e.
          let one : o.subscriber ≡ 1 = c.subscriber ∙ first in
          let two : o'.subscriber ≡ 2 = d.subscriber ∙ second in
          let both : o.subscriber ≡ o'.subscriber =
          ap (λ (x : Order). x.subscriber) a.is ∙ ap (λ (i : ℕ). (place_at s.bank.bank i).subscriber) e
          ∙ sym (ap (λ (x : Order). x.subscriber) b.is) in
          omega arith,
    )

-- subscriber 2's booked A000 does not make subscriber 1's dropped A000 lodged
own-series-unbooked : Booked (end_of own_series start) 0 → ⊥
own-series-unbooked = (outcome own_series tt computed-series.own-series-done.met).not_lodged 0 computed-series.own-series-done.ends.0

-- it is subscriber 2's own order
other-booked : let s = end_of own_series start in
    (j : ℕ) × (o : Order) × InBook s j o × OrderOf s 1 o × (name_of o ≡ order_name (s.runs 1))
other-booked = ((outcome own_series tt computed-series.own-series-done.met).lodged 1 computed-series.own-series-done.ends.1).1

-- an order of edition 2.4 in turn
choosing-closed : Closed 0 (end_of choosing start)
choosing-closed =
    closed 0 1 choosing tt computed-choices.choosing-done.in_order computed-choices.choosing-done.ends.0

-- 091115 to its opening, accepted before: "not lodged", truly
chosen-twice-unbooked : Booked (end_of chosen_twice start) 0 → ⊥
chosen-twice-unbooked =
    (outcome chosen_twice tt computed-choices.chosen-twice-done.met).not_lodged 0 computed-choices.chosen-twice-done.ends.1

-- the booked order of run 0's name is not run 0's: by name it would have closed as lodged
ten-calls-unbooked : Booked (end_of ten_calls start) 0 → ⊥
ten-calls-unbooked =
    (outcome ten_calls tt computed-choices.ten-calls-done.met).not_lodged 0 computed-choices.ten-calls-done.ends

asking-closed : Closed 0 (end_of asking start)
asking-closed = closed 0 1 asking tt computed.asking-done.in_order computed.asking-done.ends

-- with sessions put away and taken up between
resuming-closed : Closed 0 (end_of resuming start)
resuming-closed = closed 0 1 resuming resuming-done.all_asked resuming-done.in_order resuming-done.ends

-- ---- without the premise of a taking up

away-is : exec away opened ≡ carry_out away opened
away-is = carried away opened away-done

-- it is taken up
up_is : take_up (standing start) (take image_length (put_away (standing opened) room).buffer) ≡ take_up_of (Ok tt) (standing opened)
up_is = put-taken (standing opened) room away-done (standing start) fresh-long

up_done : call_number up ≡ 0
up_done = ap (λ (k : TakeUp). k.number) up_is

once_more_lem : exec up (sent (exec away opened)) ≡ once_more
once_more_lem =
    let e = ap (λ (k : TakeUp). k.session) up_is in
    let bank = ap (λ (m : LentSession). state_of (bank_in m)) e ∙ away-bank in
    let journal = ap journal_in e ∙ away-journal in
    carried up (sent (exec away opened)) up_done
    ∙ (λ x. with_bank (bank x) (with_journal (journal x) (sent (away-is x))))

-- an upload is booked twice
sent-twice-booked : AtMostOne (Books sent_twice 0) sent_twice.exchanged → ⊥
sent-twice-booked =
    subst (λ (t : Course). AtMostOne (Books (sent t) 0) (sent t).exchanged → ⊥) (sym once_more_lem)
    (let o = sent-again.once-more-booked in
    not-once no_exchange (Books (sent once_more) 0) (sent once_more).exchanged o.0 (books-at 0 (sent once_more) o.1)
    (books-at 1 (sent once_more) o.2))

-- every other call has its premise
opening-allowed : AllAllowed (calls_of opening start) start
opening-allowed = all-allowed opening start right-start tt computed.opening-done.met

away-allowed : Allowed away opened
away-allowed = put-allowed opened (standing opened) room away-bank away-journal

comes-allowed : (s : Course) → StateHolds s.bank → is_allowed (comes 0 1000) s ≡ true →
    Allowed (call_of (comes 0 1000) s) s
comes-allowed s v h = (allowed (comes 0 1000) s (Unit {0}) v tt h).0

sent-allowed : let s = exec away opened in Allowed (call_of (comes 0 1000) s) s
sent-allowed =
    subst (λ (s : Course). Allowed (call_of (comes 0 1000) s) s) (sym away-is)
    (comes-allowed (carry_out away opened) computed.opening-done.state sent-again.sent-met)

again-allowed : let s = exec up (sent (exec away opened)) in Allowed (call_of (comes 0 1000) s) s
again-allowed =
    subst (λ (s : Course). Allowed (call_of (comes 0 1000) s) s) (sym once_more_lem)
    (comes-allowed once_more computed.opening-done.state sent-again.again-sent-met)

-- the taking up has not: its image is of a session that no longer stands
up-refused : Allowed up (sent (exec away opened)) → ⊥
up-refused a =
    in-none (subst (In (take image_length (put_away (standing opened) room).buffer))
    (ap (λ (s : Course). (sent s).images) away-is ∙ sent-again.sent-images) (a up_done))
