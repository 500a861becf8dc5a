-- What the book, a closing word and a mailbox say, from demand 3's clauses alone: a clause that fell or grew weaker is
-- refused here. Assumes nothing.
use Prim.Native.Nat.{ℕ, ◌≤◌}
use mathlib.Core.Bool.{Bool, true, false, cond}
use mathlib.Core.List.Memᴰ.{head as here}
use mathlib.Core.List.Memᴰ.{tail as there}
use mathlib.Core.List.{List, [], ◌∷◌, ◌++◌, append-nil, Memᴰ as In}
use mathlib.Core.Logic.{◌⊎◌, inl, inr}
use mathlib.Core.Path.{◌≡◌, refl, sym, ap, ◌∙◌, subst}
use native.Mathlib.Omega.{arith}
use lib.Dec.{eqb}
use lib.ListN.{length}
use borrow.Author.Tests.{eq-eqb, eqb-true}
use Rattle.frame_table.specs.Names.{subscriber, return_code, form}
use Rattle.frame_reader.specs.Reader.{read_request, read_reply}
use Rattle.message.specs.declared.codes.ReturnCode.TheVariants as code
use Rattle.message.specs.Codes.{code_field}
use Rattle.message.specs.Limits.{subscribers}
use Rattle.bank_state.specs.Clock.{advanced}
use Rattle.bank_steps.specs.Lent.{state_of}
use Rattle.bank_admitted.proofs.Clock.{advanced-mailbox}
use Rattle.bank.specs.Call.{FrameInput}
use Rattle.bank_session.specs.Session.{LentSession, bank_in, session_frame_call}
use Rattle.exchange.specs.Course.{
  Call,
  frame_arrives,
  file_put,
  begins,
  reply_arrives,
  no_reply,
  journal_handed,
  puts_away,
  takes_up,
  Exchange,
  Course,
  start,
  changed,
  mailbox_of,
  emptied,
  call_number,
  reply_in,
  carry_out,
  exec,
  after,
}
use Rattle.exchange.specs.Lists.{AtMostOne}
use Rattle.exchange.specs.Terms.{Books, Booked, Order, InBook, OrderOf}
use Rattle.exchange.specs.Demand3.{Allowed, AllAllowed, OneExchangeNumber, Outcome, Premise, Demand3}
use Rattle.exchange.specs.Consequences.{BookSays, BookTold, Changes, MailboxSays, MailboxesTold}
use Rattle.exchange.proofs.Calls.{carried, number-or-none}
use Rattle.exchange.proofs.Bank.{same-mailbox}
use Rattle.exchange.proofs.Safety.{after-append, allowed-rest}
use Rattle.exchange.proofs.Theorem.{demand3}

-- ---- two places of a list

stands-in : {A : Type 0} (l m : List A) (x : A) → In x (l ++ (x ∷ m))
stands-in [] m x = here refl
stands-in (y ∷ l) m x = there (stands-in l m x)

not-twice : {A : Type 0} (P : A → Type 0) (newer between older : List A) (e f : A) →
    AtMostOne P (newer ++ (e ∷ (between ++ (f ∷ older)))) → P e → P f → ⊥
not-twice P [] between older e f (AtMostOne.skip n r) p q = n p
not-twice P [] between older e f (AtMostOne.only n) p q = n f (stands-in between older f) q
not-twice P (x ∷ newer) between older e f (AtMostOne.skip n r) p q = not-twice P newer between older e f r p q
not-twice P (x ∷ newer) between older e f (AtMostOne.only n) p q = n e (stands-in newer (between ++ (f ∷ older)) e) p

same_first : {A : Type 0} {x y : A} {l m : List A} → x ∷ l ≡ y ∷ m → x ≡ y
same_first e = cc

-- ---- the book

module _ (s : Course) (out : Outcome s) where
  upload-of : (j : ℕ) (o : Order) → InBook s j o →
      (i : ℕ) × Booked s i × OrderOf s i o × ((k : ℕ) → Booked s k → OrderOf s k o → k ≡ i)
  upload-of j o a =
      let (i, booked, order) = out.sound j o a in
      (i, booked, order, λ k b p. out.apart k i o b booked p order)

  pub book-says : BookSays s
  book-says = record {
    once = λ i newer between older e f l.
        not-twice (Books s i) newer between older e f (subst (AtMostOne (Books s i)) l (out.once i));
    upload = upload-of;
    place = λ i b.
        let (j, o, a, order) = out.whole i b in
        (j, o, a, order, λ k p c d. out.place i k j p o c a d order);
    name = λ i e.
        let (j, o, a, order, named) = (out.lodged i e).1 in
        (j, o, a, named, order.bytes, λ k p c n. out.single k j p o c a (n ∙ sym named));
    none = λ i e j o a.
        let (k, booked, order) = out.sound j o a in
        (k, booked, order, λ z. out.not_lodged i e (subst (Booked s) z booked));
  }

-- ---- a mailbox

module _ (m : ℕ) (low : 1 ≤ m) (high : m ≤ subscribers) (s : Course) (now : Outcome s) where
  -- the ledger stays
  kept : (k : Call) (t : Course) → Outcome t → t.mailboxes m ≡ s.mailboxes m → Changes m k s t
  kept k t later e = Changes.keeps (later.mailbox m low high ∙ e ∙ sym (now.mailbox m low high))

  -- what is said of a call but for the file that it puts in
  record Says (k : Call) (t : Course) : Type 0 where
    changes : Changes m k s t
    empties : (e : Exchange) → t.exchanged ≡ e ∷ s.exchanged → subscriber (read_request e.request) ≡ m →
        return_code (read_reply e.reply) ≡ code_field code.DownloadPostprocessDone → mailbox_of t.bank m ≡ []

  -- a call that is no frame answered
  unanswered : (k : Call) (t : Course) → t.exchanged ≡ s.exchanged → Changes m k s t → Says k t
  unanswered k t same c = record {
    changes = c;
    empties = λ e new own done. absurd (let n = ap length (sym same ∙ new) in omega arith);
  }

  rests : (k : Call) (t : Course) → Outcome t → t.mailboxes m ≡ s.mailboxes m → t.exchanged ≡ s.exchanged → Says k t
  rests k t later e same = unanswered k t same (kept k t later e)

  module _ (rows mailboxes : List ℕ) (n : ℕ) (file : List ℕ) (later : Outcome (carry_out (file_put rows mailboxes n file) s)) where
    abbrev put : Call
    put = file_put rows mailboxes n file

    changed-so : (b : Bool) → eqb m n ≡ b → (carry_out put s).mailboxes m ≡ cond b file (s.mailboxes m)
    changed-so b e = ap (λ (c : Bool). cond c file (s.mailboxes m)) e

    put-changes : (b : Bool) → eqb m n ≡ b → Changes m put s (carry_out put s)
    put-changes true e =
        Changes.holds (ap (λ (x : ℕ). file_put rows mailboxes x file) (sym (eqb-true m n e)))
        (later.mailbox m low high ∙ changed-so true e)
    put-changes false e = kept put (carry_out put s) later (changed-so false e)

    put-says : Says put (carry_out put s)
    put-says = unanswered put (carry_out put s) refl (put-changes (eqb m n) refl)

  module _ (n : LentSession) (a : FrameInput) (lent : state_of (bank_in n) ≡ s.bank)
      (later : Outcome (carry_out (frame_arrives n a) s)) where
    abbrev k : Call
    k = frame_arrives n a

    abbrev reply : List ℕ
    reply = let c = session_frame_call n a in reply_in c.answer c.buffer

    abbrev from : ℕ
    from = subscriber (read_request a.frame)

    abbrev is_done : Bool
    is_done = eqb (return_code (read_reply reply)) (code_field code.DownloadPostprocessDone)

    -- the file that the mailbox held as the frame came
    box-is : from ≡ m → mailbox_of (advanced a.time (state_of (bank_in n))) from ≡ mailbox_of s.bank m
    box-is e =
        same-mailbox (advanced a.time (state_of (bank_in n))) from
        ∙ advanced-mailbox a.time (state_of (bank_in n)) from
        ∙ sym (same-mailbox (state_of (bank_in n)) from)
        ∙ (λ x. mailbox_of (lent x) (e x))

    -- the ledger after it
    ledger : (done own : Bool) → is_done ≡ done → eqb m from ≡ own →
        (carry_out k s).mailboxes m ≡ cond done (cond own [] (s.mailboxes m)) (s.mailboxes m)
    unfolding emptied
    ledger true own d o =
        ap (λ (b : Bool). cond b (changed s.mailboxes from []) s.mailboxes m) d
        ∙ ap (λ (b : Bool). cond b [] (s.mailboxes m)) o
    ledger false own d o = ap (λ (b : Bool). cond b (changed s.mailboxes from []) s.mailboxes m) d

    frame-changes : (done own : Bool) → is_done ≡ done → eqb m from ≡ own → Changes m k s (carry_out k s)
    frame-changes true true d o =
        let own = eqb-true m from o in
        let (asked, (x, issued, same, of, whole, still)) = later.emptied _ (here refl) (eqb-true _ _ d) in
        Changes.gone x issued (ap (λ (l : List ℕ). form (read_request l)) same ∙ asked) (of ∙ sym own) whole
        (still ∙ box-is (sym own)) (later.mailbox m low high ∙ ledger true true d o)
    frame-changes true false d o = kept k (carry_out k s) later (ledger true false d o)
    frame-changes false own d o = kept k (carry_out k s) later (ledger false own d o)

    frame-says : Says k (carry_out k s)
    frame-says = record {
      changes = frame-changes is_done (eqb m from) refl refl;
      empties = λ e new own done.
          let same = same_first new in
          later.mailbox m low high
          ∙ ledger true true
          (eq-eqb _ _ (ap (λ (x : Exchange). return_code (read_reply x.reply)) same ∙ done))
          (eq-eqb m from (sym (ap (λ (x : Exchange). subscriber (read_request x.request)) same ∙ own)));
    }

  carried-says : (k : Call) → Premise k s → Outcome (carry_out k s) → Says k (carry_out k s)
  carried-says (frame_arrives n a) q later = frame-says n a q.0 later
  carried-says (file_put rows mailboxes n file) q later = put-says rows mailboxes n file later
  carried-says (begins i c params l) q later = rests _ _ later refl refl
  carried-says (reply_arrives i c reply l) q later = rests _ _ later refl refl
  carried-says (no_reply i c l) q later = rests _ _ later refl refl
  carried-says (journal_handed i c row) q later = rests _ _ later refl refl
  carried-says (puts_away n buffer) q later = rests _ _ later refl refl
  carried-says (takes_up n image) q later = rests _ _ later refl refl

  says : (k : Call) → Allowed k s → Outcome (exec k s) → Says k (exec k s)
  says k q later = at (number-or-none k s)
    where
      at : (exec k s ≡ s) ⊎ ((call_number k ≡ 0) × (exec k s ≡ carry_out k s)) → Says k (exec k s)
      at (inl e) = rests k (exec k s) later (ap (λ (t : Course). t.mailboxes m) e) (ap (λ (t : Course). t.exchanged) e)
      at (inr (z, e)) = subst (Says k) (sym e) (carried-says k (q z) (subst Outcome e later))

  -- a file put in
  put_in : (rows mailboxes file : List ℕ) → let k = file_put rows mailboxes m file in
      Outcome (exec k s) → call_number k ≡ 0 → mailbox_of (exec k s).bank m ≡ file
  put_in rows mailboxes file later z =
      let k = file_put rows mailboxes m file in
      later.mailbox m low high ∙ ap (λ (t : Course). t.mailboxes m) (carried k s z)
      ∙ ap (λ (b : Bool). cond b file (s.mailboxes m)) (eq-eqb m m refl)

  pub mailbox-says : (k : Call) → Allowed k s → Outcome (exec k s) → MailboxSays m k s (exec k s)
  mailbox-says k q later =
      let o = says k q later in
      record {
        changes = o.changes;
        puts = λ rows mailboxes file is.
            subst (λ (c : Call). Outcome (exec c s) → call_number c ≡ 0 → mailbox_of (exec c s).bank m ≡ file) (sym is)
            (put_in rows mailboxes file) later;
        empties = o.empties;
      }

-- ---- over a list

out_of : (ks : List Call) → AllAllowed ks start → OneExchangeNumber (after ks start) → Outcome (after ks start)
unfolding Demand3
out_of ks a n =
    (demand3 ks [] (subst (λ (l : List Call). AllAllowed l start) (sym (append-nil ks)) a)
    (subst (λ (l : List Call). OneExchangeNumber (after l start)) (sym (append-nil ks)) n)).0

pub book-told : BookTold
unfolding BookTold
book-told ks a n = book-says (after ks start) (out_of ks a n)

pub mailboxes-told : MailboxesTold
unfolding MailboxesTold Demand3 after
mailboxes-told ks k a n m low high =
    mailbox-says m low high (after ks start) (demand3 ks (k ∷ []) a n).0 k (allowed-rest ks (k ∷ []) start a).0
    (subst Outcome (after-append ks (k ∷ []) start) (out_of (ks ++ (k ∷ [])) a n))
