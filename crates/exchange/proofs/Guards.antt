-- What the premises of demand 3 leave free, for all arguments: a premise that grew stronger is refused here. And which
-- openings are accepted, and what "lodged" names: a clause that grew weaker is too. Assumes nothing.
use Prim.Native.Nat.{ℕ, ◌≤◌}
use mathlib.Core.Bool.{Bool, true, false, ◌&&◌}
use mathlib.Core.List.Memᴰ.{head as here}
use mathlib.Core.List.Memᴰ.{tail as there}
use mathlib.Core.List.{List, [], ◌∷◌, Memᴰ as In}
use mathlib.Core.Logic.{inl, inr}
use mathlib.Core.Path.{◌≡◌, refl, sym, ap, ◌∙◌, subst}
use native.Mathlib.Omega.{arith}
use lib.Dec.{leb}
use lib.ListN.{take}
use borrow.Author.Tests.{leb-true}
use Rattle.frame_table.specs.Forms as forms
use Rattle.frame_table.specs.Names.{subscriber, return_code, form}
use Rattle.frame_table.specs.Table.{is_request_form}
use Rattle.frame_reader.specs.Reader.{read_request, read_reply}
use Rattle.octets.proofs.Tests.{never, and-true}
use Rattle.message.specs.declared.codes.ReturnCode.TheVariants as code
use Rattle.message.specs.declared.editions.Edition.{Edition}
use Rattle.message.specs.declared.editions.Edition.TheVariants.{V24, V25}
use Rattle.message.specs.Codes.{code_field}
use Rattle.message.specs.Editions.{opened_form}
use Rattle.message.specs.Limits.{subscribers}
use Rattle.journal.specs.declared.event.Event.{Event}
use Rattle.client_run.specs.declared.run.ClientRun.{ClientRun}
use Rattle.client_run.specs.declared.run.RunParameters.{RunParameters}
use Rattle.client_run.specs.declared.run.Stage.TheVariants as stage
use Rattle.client_run.specs.declared.run.Word.TheVariants.{Lodged}
use Rattle.client_run.specs.Run.{Lent, lent_of, order_name}
use Rattle.bank_rows.specs.State.{bank_of}
use Rattle.bank_steps.specs.Lent.{state_of}
use Rattle.bank.specs.Call.{FrameInput}
use Rattle.bank_session.specs.Session.{LentSession, bank_rows, bank_in, journal_in, session_frame_call}
use Rattle.bank_history.specs.History as history
use Rattle.client_history.proofs.Theorems.{no-signing-issued}
use Rattle.image_calls.specs.Calls.{put_away, image_length}
use Rattle.exchange.specs.Course.{
  Call,
  frame_arrives,
  file_put,
  begins,
  reply_arrives,
  no_reply,
  journal_handed,
  puts_away,
  takes_up,
  Exchange,
  Arrival,
  Course,
  start,
  call_number,
  carry_out,
  exec,
  after,
}
use Rattle.exchange.specs.Terms.{IssuedBy, Received, NoIdleHour, InTurn, Accepted, Order, name_of, InBook}
use Rattle.exchange.specs.Demand3.{is_named, is_subscribers, Allowed, AllAllowed, OneExchangeNumber, Outcome}
use Rattle.exchange.proofs.Calls.{numbered-stays, carried, by_number}
use Rattle.exchange.proofs.Clients.{as_issue, issued-in, Parts, own_past}
use Rattle.exchange.proofs.Courses.{parts, parts-start}
use Rattle.exchange.proofs.Told.{Gave, file_in, bank-replies}

-- ---- "a call given a number may be lent others"

pub numbered-allowed : (k : Call) (s : Course) → (call_number k ≡ 0 → ⊥) → Allowed k s
numbered-allowed k s n z = absurd (n z)

pub numbered-in-turn : (i : ℕ) (k : Call) (s : Course) → (call_number k ≡ 0 → ⊥) → InTurn i k s
numbered-in-turn i k s n z = absurd (n z)

-- of one given number 1 it leaves the course too
module _ (k : Call) (one : call_number k ≡ 1) where
  given : call_number k ≡ 0 → ⊥
  given z = let n = sym one ∙ z in omega arith

  pub one-allowed : (s : Course) → Allowed k s
  one-allowed s = numbered-allowed k s given

  pub one-in-turn : (i : ℕ) (s : Course) → InTurn i k s
  one-in-turn i s = numbered-in-turn i k s given

  pub one-stays : (s : Course) → exec k s ≡ s
  one-stays s = numbered-stays k s given

-- ---- a frame to the session as it stands: at any time, with any ID bytes and reply buffer, whatever the others count

module _ (s : Course) (m : LentSession) (bank : state_of (bank_in m) ≡ s.bank) (journal : journal_in m ≡ s.journal)
    (a : FrameInput) where
  -- a copy of a request issued
  pub issued-allowed : (i : ℕ) → IssuedBy i a.frame s → Allowed (frame_arrives m a) s
  issued-allowed i own _ = (bank, journal, λ _. (i, own))

  -- no request of a subscriber
  pub stray-allowed : is_subscribers a.frame ≡ false → Allowed (frame_arrives m a) s
  stray-allowed n _ = (bank, journal, λ e. never (sym n ∙ e))

  -- an unreadable frame
  pub unreadable-allowed : is_request_form (form (read_request a.frame)) ≡ false → Allowed (frame_arrives m a) s
  unfolding is_subscribers
  unreadable-allowed n = stray-allowed (rw n)

  -- "closing words hold whoever signs": a signing, by whomever, of whatever order, issued by a run or not
  pub signing-allowed : form (read_request a.frame) ≡ forms.Signing → Allowed (frame_arrives m a) s
  unfolding is_subscribers
  signing-allowed f = stray-allowed (rw f refl)

  -- a frame under no subscriber's number
  pub unknown-allowed : (1 ≤ subscriber (read_request a.frame) → subscriber (read_request a.frame) ≤ subscribers → ⊥) →
      Allowed (frame_arrives m a) s
  unfolding is_subscribers
  unknown-allowed n = stray-allowed (at (is_subscribers a.frame) refl)
    where
      u : ℕ
      u = subscriber (read_request a.frame)

      at : (b : Bool) → is_subscribers a.frame ≡ b → b ≡ false
      at false e = refl
      at true e =
          let readable = is_named (form (read_request a.frame)) in
          let most = and-true (readable && leb 1 u) (leb u subscribers) e in
          let least = and-true readable (leb 1 u) most.0 in
          absurd (n (leb-true 1 u least.1) (leb-true u subscribers most.1))

-- ---- a file to the bank as it stands: any file into any mailbox, with any number of events

pub file-allowed : (s : Course) (rows : List ℕ) → bank_of (bank_rows rows) ≡ s.bank.bank → (m : ℕ) (file : List ℕ) →
    Allowed (file_put rows s.bank.mailboxes m file) s
file-allowed s rows e m file _ = (e, refl)

-- ---- a call of a run as it stands: at any time, with any nonce bytes and request buffer

module _ (s : Course) (i time : ℕ) (nonce request : List ℕ) where
  -- begin, with any payload and file buffer
  pub begin-allowed : (params : RunParameters) (payload file : List ℕ) →
      Allowed (begins i (s.runs i) params (lent_of time nonce payload file request)) s
  begin-allowed params payload file _ = refl

  abbrev left : Lent
  left = lent_of time nonce (s.payloads i) (s.files i) request

  -- a copy of a reply that the bank gave for a copy of a request issued
  pub reply-allowed : (e : Exchange) → In e s.exchanged → (j : ℕ) → IssuedBy j e.request s →
      Allowed (reply_arrives i (s.runs i) e.reply left) s
  reply-allowed e m j own _ = ((refl, refl, refl), (e, m, refl, (j, own)))

  pub no-reply-allowed : Allowed (no_reply i (s.runs i) left) s
  no-reply-allowed _ = (refl, refl, refl)

-- ---- the journal as it stands, to any run: not begun, under way or ended, unclear or not

pub journal-allowed : (s : Course) (i : ℕ) → Allowed (journal_handed i (s.runs i) s.journal.row) s
journal-allowed s i _ = (refl, refl)

-- a call of run j
pub data OfRun (j : ℕ) : Call → Type 0 where
  begin : {c : ClientRun} {params : RunParameters} {l : Lent} → OfRun j (begins j c params l)
  reply : {c : ClientRun} {bytes : List ℕ} {l : Lent} → OfRun j (reply_arrives j c bytes l)
  no-reply : {c : ClientRun} {l : Lent} → OfRun j (no_reply j c l)
  journal : {c : ClientRun} {row : List Event} → OfRun j (journal_handed j c row)

-- ---- the session as it stands is put away into any buffer, and taken up again

pub put-allowed : (s : Course) (m : LentSession) (buffer : List ℕ) → state_of (bank_in m) ≡ s.bank → journal_in m ≡ s.journal →
    Allowed (puts_away m buffer) s
put-allowed s m buffer e f _ = (e, f)

-- "nothing ran between": what may stand there all the same, a taking up of the same image too
pub data Between : Call → Type 0 where
  of-run : {j : ℕ} {k : Call} → OfRun j k → Between k
  writing : {m : LentSession} {buffer : List ℕ} → Between (puts_away m buffer)
  taking-up : {m : LentSession} {image : List ℕ} → Between (takes_up m image)
  given-number : {k : Call} → (call_number k ≡ 0 → ⊥) → Between k

pub data AllBetween : List Call → Type 0 where
  none : AllBetween []
  more : {k : Call} {ks : List Call} → Between k → AllBetween ks → AllBetween (k ∷ ks)

module _ (image : List ℕ) where
  carried-image : {k : Call} (s : Course) → Between k → In image s.images → call_number k ≡ 0 → In image (carry_out k s).images
  carried-image s (of-run begin) i z = i
  carried-image s (of-run reply) i z = i
  carried-image s (of-run no-reply) i z = i
  carried-image s (of-run journal) i z = i
  carried-image s writing i z = there i
  carried-image s taking-up i z = i
  carried-image s (given-number n) i z = absurd (n z)

  image-stays : (ks : List Call) (s : Course) → AllBetween ks → In image s.images → In image (after ks s).images
  unfolding after
  image-stays [] s b i = i
  image-stays (k ∷ ks) s (more b bs) i =
      image-stays ks (exec k s) bs (by_number k s (λ (t : Course). In image t.images) i (carried-image s b i))

  -- into any memory
  pub taken-allowed : (ks : List Call) (s : Course) → AllBetween ks → In image s.images → (n : LentSession) →
      Allowed (takes_up n image) (after ks s)
  taken-allowed ks s b i n _ = image-stays ks s b i

-- the image of a writing is among them
pub put-image-in : (s : Course) (m : LentSession) (buffer : List ℕ) → call_number (puts_away m buffer) ≡ 0 →
    In (take image_length (put_away m buffer).buffer) (exec (puts_away m buffer) s).images
put-image-in s m buffer z =
    subst (λ (t : Course). In (take image_length (put_away m buffer).buffer) t.images)
    (sym (carried (puts_away m buffer) s z)) (here refl)

-- ---- an order in turn, whatever else goes on

-- a call of another run
pub other-in-turn : (i j : ℕ) → (j ≡ i → ⊥) → (s : Course) {k : Call} → OfRun j k → InTurn i k s
other-in-turn i j other s begin _ = tt
other-in-turn i j other s reply _ = λ same. absurd (other same)
other-in-turn i j other s no-reply _ = other
other-in-turn i j other s journal _ = tt

-- the journal handed to any run, the order's own too
pub journal-in-turn : (i j : ℕ) (c : ClientRun) (row : List Event) (s : Course) → InTurn i (journal_handed j c row) s
journal-in-turn i j c row s _ = tt

-- the session put away and taken up
pub put-in-turn : (i : ℕ) (m : LentSession) (buffer : List ℕ) (s : Course) → InTurn i (puts_away m buffer) s
put-in-turn i m buffer s _ = tt

pub taken-in-turn : (i : ℕ) (m : LentSession) (image : List ℕ) (s : Course) → InTurn i (takes_up m image) s
taken-in-turn i m image s _ = tt

-- a file
pub file-in-turn : (i : ℕ) (s : Course) (rows mailboxes : List ℕ) (m : ℕ) (file : List ℕ) →
    InTurn i (file_put rows mailboxes m file) s
file-in-turn i s rows mailboxes m file _ = tt

-- the order's own begin, and its own reply that has not arrived
pub begin-in-turn : (i : ℕ) (s : Course) (c : ClientRun) (params : RunParameters) (l : Lent) → InTurn i (begins i c params l) s
begin-in-turn i s c params l _ = tt

pub reply-in-turn : (i : ℕ) (s : Course) (c : ClientRun) (bytes : List ℕ) (l : Lent) →
    ((a : Arrival) → In a s.arrived → a.run ≡ i → a.reply ≡ bytes → ⊥) → InTurn i (reply_arrives i c bytes l) s
reply-in-turn i s c bytes l fresh _ = λ _. fresh

-- its own request that the bank has not received, within the idle limit of the one before
pub own-in-turn : (i : ℕ) (s : Course) (m : LentSession) (a : FrameInput) →
    ((e : Exchange) → In e s.exchanged → e.request ≡ a.frame → ⊥) →
    NoIdleHour i (state_of (bank_in (session_frame_call m a).session)).bank.clock s → InTurn i (frame_arrives m a) s
own-in-turn i s m a fresh hour _ = λ _. (fresh, hour)

-- a frame that the run did not issue
pub foreign-in-turn : (i : ℕ) (s : Course) (m : LentSession) (a : FrameInput) → (IssuedBy i a.frame s → ⊥) →
    InTurn i (frame_arrives m a) s
foreign-in-turn i s m a foreign _ = λ own. absurd (foreign own)

-- a signing, whoever signs: no run issues any
pub signing-in-turn : (i : ℕ) (ks : List Call) → AllAllowed ks start → OneExchangeNumber (after ks start) → (m : LentSession)
    (a : FrameInput) → form (read_request a.frame) ≡ forms.Signing → InTurn i (frame_arrives m a) (after ks start)
signing-in-turn i ks all numbers m a f = foreign-in-turn i (after ks start) m a foreign
  where
    v : Parts (after ks start)
    v = parts ks start parts-start all numbers

    h : List history.Exchange
    h = v.bank.past.history

    foreign : IssuedBy i a.frame (after ks start) → ⊥
    foreign (x, n, r, e) =
        no-signing-issued (Gave h) (file_in h) (bank-replies h v.bank.holds.invariant.sound v.bank.proper)
        (own_past v i) (v.runs i).own (as_issue x) (issued-in i n r) (ap (λ (l : List ℕ). form (read_request l)) e ∙ f)

-- ---- an order of either edition is one whose opening is accepted

pub opened-accepted : (x : Edition) (i : ℕ) (s : Course) (e : Exchange) → Received i e s →
    form (read_reply e.reply) ≡ opened_form x → return_code (read_reply e.reply) ≡ code_field code.Ok → Accepted i s
opened-accepted V24 i s e r z c = (e, r, inr (inr z), c)
opened-accepted V25 i s e r z c = (e, r, inl z, c)

-- ---- "'Lodged' names subscriber, type and number together"

-- they are those of an order in the book
pub lodged-named : {s : Course} → Outcome s → (i : ℕ) → (s.runs i).stage ≡ stage.Ended Lodged →
    (j : ℕ) × (o : Order) × InBook s j o × (name_of o ≡ order_name (s.runs i))
lodged-named k i e = let o = (k.lodged i e).1 in (o.0, o.1, o.2, o.4)
