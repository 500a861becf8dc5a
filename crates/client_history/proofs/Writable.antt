-- From a begin, each request that a run issues is written, in at most 303 bytes: a call that its ruling admits is given
-- no number. Over every list of events whose arguments are of their types, at any times. Assumes nothing.
use Rattle.std.specs.Prelude.{Ok}
use Prim.Native.Nat.{ℕ, ◌^◌, ◌≤◌, ◌<◌}
use mathlib.Core.Bool.{true}
use mathlib.Core.List.{List, []}
use mathlib.Core.Logic.{inl, inr}
use mathlib.Core.Path.{◌≡◌, refl, sym, ap, ◌∙◌}
use native.Mathlib.Omega.{arith}
use lib.ListN.{length, take, drop, length-take, length-drop}
use Rattle.octets.specs.Bytes.{Bytes}
use Rattle.octets.proofs.Numbers.{bytes_take, bytes_drop, number_small}
use Rattle.frame_table.specs.declared.fields.Fields.{Fields}
use Rattle.frame_table.specs.declared.table.Form.{Form}
use Rattle.frame_table.specs.Forms as forms
use Rattle.frame_table.specs.Names.{no_fields, transaction}
use Rattle.frame_table.specs.Table.{is_request_form, last_time}
use Rattle.frame_reader.specs.Reader.{read_reply}
use Rattle.frame_row.specs.Row.{data_of}
use Rattle.frame_writer.specs.Writer.{frame_of}
use Rattle.frame_writer.proofs.Written.{written-in-front}
use Rattle.frame.proofs.Theorems.{request-length}
use Rattle.message.specs.Limits.{segment_bytes}
use Rattle.message.specs.Segments.{segments_of, segment_of, last_mark_of}
use Rattle.message.proofs.SegmentNumbers.{mark-most}
use Rattle.message.proofs.Writable.{
  WrittenAs,
  Wide,
  segment-content,
  upload-opening-written,
  chosen-opening-written,
  download-opening-written,
  upload-transfer-written,
  download-transfer-written,
  receipt-written,
}
use Rattle.client_run.specs.declared.run.ClientRun.{ClientRun}
use Rattle.client_run.specs.declared.run.Decision.{Decision}
use Rattle.client_run.specs.declared.run.Decision.TheVariants.{Ignore, Opened, Advance, Return, Repeat, Close}
use Rattle.message.specs.declared.directions.Direction.{Direction}
use Rattle.message.specs.declared.directions.Direction.TheVariants.{Upload, Download}
use Rattle.message.specs.declared.editions.Edition.{Edition}
use Rattle.message.specs.declared.editions.Edition.TheVariants.{V24, V25}
use Rattle.client_run.specs.declared.run.Lengths.{Lengths}
use Rattle.client_run.specs.declared.run.RunParameters.{RunParameters}
use Rattle.client_run.specs.declared.run.RunTerms.{RunTerms}
use Rattle.client_run.specs.declared.run.Step.TheVariants as step
use Rattle.client.specs.Calls.{is_written, issued, taken, carry_out, if_admitted, begin_call, reply_call, no_reply_call}
use Rattle.client_run.specs.NextRun.{begin_length, begun, learned, file_with}
use Rattle.message.specs.Editions.{opening_form}
use Rattle.client_run.specs.Requests.{nonce_of, opening_by, outstanding, outstanding_data}
use Rattle.client_run.specs.Run.{Lent, lengths_of, nonce_bytes, request_room, chosen_number}
use Rattle.client_run.proofs.Apart.{not-both, not-new-running}
use Rattle.client_rules.specs.Decisions.{on_reply, on_no_reply}
use Rattle.client_rules.specs.Rulings.{run_ruling}
use Rattle.client_rules.proofs.Accepted.{Serves, SameLength, Accepted, accepted, Begins, begins}
use Rattle.client_rules.proofs.Causes.{Cause, by-reply, by-no-reply}
use Rattle.client_history.specs.Bounds.{
  UploadPlace,
  UploadCourse,
  OpeningCourse,
  DownloadPlace,
  DownloadCourse,
  Course,
  uploading,
  opening,
  downloading,
  Bounded,
  Bounds,
  fresh,
  going,
  TypedLent,
  Typed,
  typed-begin,
  typed-reply,
  typed-no-reply,
  AllTyped,
  ruling_of,
  Unrefused,
}
use Rattle.client_history.specs.History.{Issue, Event, Begin, Reply, NoReply, call_of, past_of}
use Rattle.client_history.proofs.AnyEvent.{with_request, begun_by}
use Rattle.client_history.proofs.Bounds.{bounded-begun, bounded-next, bounded-exchange, bounds}
use Rattle.client_history.proofs.Course.{up-segments}
use Rattle.client_history.proofs.Decided.{Issuing, next_of, next-of, next-length}
use Rattle.client_history.proofs.Transactions.{reply-wide, next-wide, transaction-wide}

-- ---- the parts of a request

nonce-wide : (s : List ℕ) (x : ℕ) → length s ≡ nonce_bytes → Bytes s → Wide (nonce_of s x)
unfolding nonce_of
nonce-wide s x e b =
    let low = number_small 4 (drop 8 s) (bytes_drop 8 s b) (simp length-drop (omega arith)) in
    (number_small 8 (take 8 s) (bytes_take 8 s b) (simp length-take (omega arith)), omega arith)

-- the number that a run was told has four bytes
chosen-small : (terms : RunTerms) → chosen_number terms < 2 ^ 32
unfolding chosen_number
chosen-small terms = omega arith

opening-request : (e : Edition) → is_request_form (opening_form e) ≡ true
opening-request V24 = refl
opening-request V25 = refl

-- each segment of a payload has some bytes, at most 256
part_length : (p : List ℕ) (s : ℕ) → 1 ≤ s → s ≤ segments_of (length p)
    → (0 < length (segment_of p s)) × (length (segment_of p s) ≤ segment_bytes)
unfolding segment_of segments_of
part_length p s first last = (simp (length-take, length-drop) (omega arith), simp length-take (omega arith))

-- ---- the request that a run has outstanding

-- it is written in at most 303 bytes
pub record Sent (c : ClientRun) (l : Lent) : Type 0 where
  pub size : ℕ
  pub small : size ≤ request_room
  pub written : is_written c l ≡ Ok size

module _ (c : ClientRun) (issues : List Issue) (b : Bounded c issues) (v : Wide c.transaction) (l : Lent)
    (t : TypedLent l) (timely : l.time ≤ last_time)
    (same : c.direction ≡ Upload → c.length ≡ length l.payload) (room : request_room ≤ length l.request) where
  abbrev q : ℕ
  q = length issues

  sender : (c.subscriber < 2 ^ 16) × (c.exchange < 2 ^ 32)
  sender = (omega (arith, b.high), omega (arith, bounded-exchange b))

  sent : {f : Fields} {d : List ℕ} {x : Form} → WrittenAs f d x → is_request_form x ≡ true → length d ≤ segment_bytes
      → outstanding c l.time l.nonce ≡ f → outstanding_data c l.payload ≡ d → Sent c l
  unfolding is_written
  sent {f} {d} w k short ef ed =
      let small = request-length f d w.accepted (ap is_request_form w.named ∙ k) short in
      record {
        size = length (frame_of f d);
        small = small;
        written = rw (ef, ed) (written-in-front f d l.request (length (frame_of f d)) w.accepted refl
            (omega arith)).0;
      }

  -- an opening of either edition is written
  opening-written : (e : Edition) → c.segments < 2 ^ 16
      → WrittenAs
      (opening_by e (chosen_number c.terms) c.subscriber c.exchange (nonce_of l.nonce c.exchange) l.time
      c.segments) [] (opening_form e)
  opening-written V24 few =
      chosen-opening-written c.subscriber c.exchange sender (nonce_of l.nonce c.exchange) l.time
      (nonce-wide l.nonce c.exchange t.twelve t.nonce) timely c.segments (chosen_number c.terms) few
      (chosen-small c.terms)
  opening-written V25 few =
      upload-opening-written c.subscriber c.exchange sender (nonce_of l.nonce c.exchange) l.time
      (nonce-wide l.nonce c.exchange t.twelve t.nonce) timely c.segments few

  up-opening-sent : UploadCourse c q → c.step ≡ step.Opening → Sent c l
  unfolding outstanding outstanding_data
  up-opening-sent u s =
      let w = opening-written c.terms.edition (omega (arith, (up-segments c q u).1)) in
      sent w (opening-request c.terms.edition) (omega arith) (rw (u.direction, s)) (rw (u.direction, s))

  up-segment-sent : UploadCourse c q → c.step ≡ step.Segment → 1 ≤ c.segment → Sent c l
  unfolding outstanding outstanding_data
  up-segment-sent u s some =
      let count = u.count ∙ ap segments_of (same u.direction) in
      let few = (up-segments c q u).1 in
      let d : List ℕ = segment_of l.payload c.segment in
      let long = part_length l.payload c.segment some (omega (arith, count, u.known, u.within)) in
      let w = upload-transfer-written c.subscriber c.exchange sender c.transaction v c.segment
      (last_mark_of c.segment c.segments) d (omega (arith, u.known, u.within))
      (mark-most c.segment c.segments) (segment-content d forms.UploadTransfer refl long.0 long.1) in
      sent w refl long.1 (rw (u.direction, s)) (rw (u.direction, s))

  down-opening-sent : OpeningCourse c q → Sent c l
  unfolding outstanding outstanding_data
  down-opening-sent o =
      let w = download-opening-written c.subscriber c.exchange sender (nonce_of l.nonce c.exchange) l.time
      (nonce-wide l.nonce c.exchange t.twelve t.nonce) timely in
      sent w refl (omega arith) (rw (o.direction, o.at)) (rw o.direction)

  down-segment-sent : DownloadCourse c q → c.step ≡ step.Segment → c.segment ≤ c.segments → Sent c l
  unfolding outstanding outstanding_data
  down-segment-sent e s k =
      let small = e.most in
      let w = download-transfer-written c.subscriber c.exchange sender c.transaction v c.segment
      (omega arith) in
      sent w refl (omega arith) (rw (e.direction, s)) (rw e.direction)

  receipt-sent : DownloadCourse c q → c.step ≡ step.Receipt → Sent c l
  unfolding outstanding outstanding_data
  receipt-sent e s =
      let w = receipt-written c.subscriber c.exchange sender c.transaction v 0 (omega arith) in
      sent w refl (omega arith) (rw (e.direction, s)) (rw e.direction)

  course-sent : Course c q → Sent c l
  course-sent (uploading u) = at u.place
    where
      at : UploadPlace c.step c.segment → Sent c l
      at (inl p) = up-opening-sent u p.0
      at (inr p) = up-segment-sent u p.0 p.1
  course-sent (opening o) = down-opening-sent o
  course-sent (downloading e) = at e.place
    where
      at : DownloadPlace c.step c.segment c.segments → Sent c l
      at (inl p) = down-segment-sent e p.0 p.1
      at (inr p) = receipt-sent e p.0

  pub outstanding-sent : Sent c l
  outstanding-sent = course-sent b.course

-- ---- the calls

issued-unrefused : (c next : ClientRun) (file : List ℕ) (l : Lent) → Sent next l → Unrefused (issued c next file l).answer
unfolding issued
issued-unrefused c next file l s = rw s.written s.small

room-served : (direction : Direction) (l : Lengths) → Serves direction l → request_room ≤ l.request
room-served Upload l s = s.2
room-served Download l s = s.1

payload_same : (direction : Direction) (c : ClientRun) (l : Lengths) → SameLength direction c l → direction ≡ Upload
    → c.length ≡ l.payload
payload_same Upload c l s e = sym s
payload_same Download c l s e = not-both e refl

module _ (c : ClientRun) (issues : List Issue) (b : Bounded c issues) (v : Wide c.transaction) (l : Lent)
    (t : TypedLent l)
    (a : Accepted c l) (r : Fields) (d : List ℕ) (w : Wide (transaction r)) where
  next-sent : (decision : Decision) → Issuing decision → Cause c r (length d) decision
      → Sent (next_of decision c r (length d)) l
  next-sent decision i k =
      let next = next_of decision c r (length d) in
      let same : next.direction ≡ Upload → next.length ≡ length l.payload =
      λ e.
      let u = sym (next-of decision i c r (length d)).direction ∙ e in
      next-length decision i c r (length d) u ∙ payload_same c.direction c (lengths_of l) a.length u in
      outstanding-sent next (with_request next l l.file issues)
      (bounded-next c issues b decision i r (length d) k l l.file)
      (next-wide decision i c r (length d) w v) l t a.time same
      (room-served c.direction (lengths_of l) a.buffers)

  carried-unrefused : (decision : Decision) → Cause c r (length d) decision
      → Unrefused (carry_out decision c r d l).answer
  unfolding taken
  carried-unrefused Ignore k = tt
  carried-unrefused Opened k =
      issued-unrefused c (next_of Opened c r (length d)) (file_with (learned c.direction r c) d l.file) l
      (next-sent Opened tt k)
  carried-unrefused Advance k =
      issued-unrefused c (next_of Advance c r (length d)) (file_with c d l.file) l (next-sent Advance tt k)
  carried-unrefused (Return s) k =
      issued-unrefused c (next_of (Return s) c r (length d)) l.file l (next-sent (Return s) tt k)
  carried-unrefused Repeat k =
      issued-unrefused c (next_of Repeat c r (length d)) l.file l (next-sent Repeat tt k)
  carried-unrefused (Close u) k = tt

begin-same : (direction : Direction) (l : Lengths) → direction ≡ Upload → begin_length direction l ≡ l.payload
begin-same Upload l e = refl
begin-same Download l e = not-both e refl

begin-sent : (c : ClientRun) (params : RunParameters) (l : Lent) → TypedLent l → Begins c params l
    → Sent (begun_by params l) l
unfolding begun
begin-sent c params l t b =
    outstanding-sent (begun_by params l) (with_request (begun_by params l) l l.file [])
    (bounded-begun c params l l.file b) (omega arith, omega arith) l t b.time
    (begin-same params.direction (lengths_of l)) (room-served params.direction (lengths_of l) b.buffers)

module _ (c : ClientRun) (issues : List Issue) (v : Wide c.transaction) (s : Bounds c issues) where
  run-unrefused : (decision : Decision) (r : Fields) (d : List ℕ) (l : Lent) → TypedLent l → Wide (transaction r)
      → Cause c r (length d) decision → run_ruling c l.time (lengths_of l) ≡ Ok tt
      → Unrefused (if_admitted (run_ruling c l.time (lengths_of l)) c l (carry_out decision c r d l)).answer
  run-unrefused decision r d l t w k e = rw e (at s)
    where
      a : Accepted c l
      a = accepted c l e

      at : Bounds c issues → Unrefused (carry_out decision c r d l).answer
      at (fresh n z) = not-new-running (ap (λ (x : ClientRun). x.stage) n) a.running
      at (going b) = carried-unrefused c issues b v l t a r d w decision k

  call-unrefused : (e : Event) → Typed e → ruling_of e c ≡ Ok tt → Unrefused (call_of e c).answer
  unfolding begin_call reply_call no_reply_call
  call-unrefused (Begin params l) (typed-begin t) e =
      rw e
      (issued-unrefused c (begun_by params l) l.file l
      (begin-sent c params l t (begins c params l e)))
  call-unrefused (Reply frame l) (typed-reply b t) e =
      let r = read_reply frame in
      let d = data_of frame in
      run-unrefused (on_reply c r (length d)) r d l t (reply-wide frame b) (by-reply c r (length d)) e
  call-unrefused (NoReply l) (typed-no-reply t) e =
      run-unrefused (on_no_reply c) no_fields [] l t (omega arith, omega arith) (by-no-reply c no_fields 0) e

-- after every list of events: one more that its ruling admits is given no number, and a request has at most 303 bytes
pub unrefused : (es : List Event) → AllTyped es → (e : Event) → Typed e → ruling_of e (past_of es).run ≡ Ok tt
    → Unrefused (call_of e (past_of es).run).answer
unrefused es a e t h =
    call-unrefused (past_of es).run (past_of es).issues (transaction-wide es a) (bounds es) e t h
