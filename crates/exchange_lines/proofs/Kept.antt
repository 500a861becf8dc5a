-- What is in a run's lines: requests that the run issued, and the bank's replies to them. Only these are put in, and
-- only what was put in comes out; what was issued and answered stays so. Assumes nothing.
use Prim.Native.Nat.{ℕ, zero, suc, ◌-◌}
use mathlib.Core.Bool.{Bool, true, false, cond}
use mathlib.Core.List.Memᴰ.{append_cases as in-append}
use mathlib.Core.List.Memᴰ.{eq_of_singleton as in_one}
use mathlib.Core.List.Memᴰ.{head as here}
use mathlib.Core.List.Memᴰ.{not-nil as in-none}
use mathlib.Core.List.Memᴰ.{of_map}
use mathlib.Core.List.Memᴰ.{tail as there}
use mathlib.Core.List.{
  List,
  [],
  ◌∷◌,
  ◌++◌,
  append-nil,
  Memᴰ as In,
}
use mathlib.Core.Logic.{◌⊎◌, inl, inr}
use mathlib.Core.Path.{◌≡◌, refl, sym, ap, ◌∙◌, subst}
use native.Mathlib.Omega.{arith}
use lib.Dec.{eqb, leb}
use lib.ListN.{length, take}
use borrow.Author.Tests.{eqb-true}
use Rattle.line.specs.Line.{Message, message_bytes, Line, made, put, out_of}
use Rattle.line.specs.Course as line
use Rattle.line.proofs.Courses.{after-append, course-append, lossy}
use Rattle.bank.specs.Call.{FrameInput}
use Rattle.bank_session.specs.Session.{LentSession}
use Rattle.exchange.specs.Course.{
  Call,
  frame_arrives,
  file_put,
  begins,
  reply_arrives,
  no_reply,
  journal_handed,
  puts_away,
  takes_up,
  Issue,
  Exchange,
  Course,
  changed,
  call_number,
  carry_out,
  exec,
}
use Rattle.exchange.specs.Terms.{IssuedBy}
use Rattle.exchange.proofs.Calls.{by_number}
use Rattle.exchange.proofs.Issues.{issued-more}
use Rattle.exchange_lines.specs.Lines.{
  InUse,
  carry,
  Lines,
  Seeds,
  Net,
  fresh_net,
  Move,
  to_bank,
  other,
  call_of,
  Passed,
  request,
  reply,
  stray,
  none,
  passed,
  Sent,
  send_all,
  request_sent,
  reply_sent,
  replies_sent,
  added,
  next,
}
use Rattle.exchange_lines.specs.Claims.{IsOut, OverLine, Answered, IsOwn, Own, IsCourse}

-- ---- a line in use

-- a message more is put in
module _ (seed : ℕ) (ms : List Message) (m : Message) where
  put-after : (l : Line) → l ≡ line.after (made seed) ms → (put l m).next ≡ line.after (made seed) (ms ++ (m ∷ []))
  unfolding line.after
  put-after l e = ap (λ (k : Line). (put k m).next) e ∙ sym (after-append (made seed) ms (m ∷ []))

  put-course : (l : Line) (out : List Message) → l ≡ line.after (made seed) ms → out ≡ line.course (made seed) ms →
      out ++ out_of m (put l m) ≡ line.course (made seed) (ms ++ (m ∷ []))
  unfolding line.course
  put-course l out e f =
      (λ x. f x ++ out_of m (put (e x) m))
      ∙ ap (λ (x : List Message). line.course (made seed) ms ++ x) (sym (append-nil (out_of m (put (line.after (made seed) ms) m))))
      ∙ sym (course-append (made seed) ms (m ∷ []))

module _ (seed : ℕ) (P : Message → Type 0) where
  carry-course : (m : Message) (u : InUse) → IsCourse seed P u → P m → IsCourse seed P (carry m u)
  unfolding carry
  carry-course m u (ms, all, e, f) new = at (leb (length m) message_bytes)
    where
      told : (x : Message) → In x ms ⊎ In x (m ∷ []) → P x
      told x (inl i) = all x i
      told x (inr i) = subst P (sym (in_one i)) new

      at : (b : Bool)
          → IsCourse seed P (cond b (record { line = (put u.line m).next; out = u.out ++ out_of m (put u.line m) }) u)
      at true =
          (ms ++ (m ∷ []), λ x i. told x (in-append ms i), put-after seed ms m u.line e, put-course seed ms m u.line u.out e f)
      at false = (ms, all, e, f)

  -- "Only messages put in come out"
  came-out : (u : InUse) → IsCourse seed P u → (m : Message) → In m u.out → P m
  came-out u (ms, all, e, f) m i = all m ((lossy seed ms).only m (subst (In m) f i))

  -- what is told of messages, told in other words
  retold : (Q : Message → Type 0) → ((m : Message) → P m → Q m) → (u : InUse) → IsCourse seed P u → IsCourse seed Q u
  retold Q more u (ms, all, e, f) = (ms, λ m i. more m (all m i), e, f)

-- ---- the lines of all runs

module _ (seed : ℕ → ℕ) (P : ℕ → Message → Type 0) where
  abbrev AllCourses : (ℕ → InUse) → Type 0
  AllCourses us = (i : ℕ) → IsCourse (seed i) (P i) (us i)

  one-sent : (us : ℕ → InUse) → AllCourses us → (i : ℕ) (m : Message) → P i m → AllCourses (changed us i (carry m (us i)))
  one-sent us all i m new j = at (eqb j i) refl
    where
      at : (b : Bool) → eqb j i ≡ b → IsCourse (seed j) (P j) (cond b (carry m (us i)) (us j))
      at true e =
          subst (λ (k : ℕ). IsCourse (seed k) (P k) (carry m (us i))) (sym (eqb-true j i e))
          (carry-course (seed i) (P i) m (us i) (all i) new)
      at false e = all j

  all-sent : (xs : List Sent) (us : ℕ → InUse) → AllCourses us → ((x : Sent) → In x xs → P x.run x.message) →
      AllCourses (send_all xs us)
  all-sent [] us all new = all
  all-sent (x ∷ xs) us all new =
      one-sent (send_all xs us) (all-sent xs us all (λ y m. new y (there m))) x.run x.message (new x (here refl))

-- ---- what a call adds

in_take : {A : Type 0} {x : A} (n : ℕ) (l : List A) → In x (take n l) → In x l
in_take zero l m = absurd (in-none m)
in_take (suc n) [] m = m
in_take (suc n) (y ∷ l) (here e) = here e
in_take (suc n) (y ∷ l) (there m) = there (in_take n l m)

in-added : {A : Type 0} {x : A} (old now : List A) → In x (added old now) → In x now
in-added old now m = in_take (length now - length old) now m

pub none-added : {A : Type 0} (l : List A) → added l l ≡ []
none-added l = let z : length l - length l ≡ 0 = omega arith in rw z

pub one-added : {A : Type 0} (x : A) (l : List A) → added l (x ∷ l) ≡ x ∷ []
one-added x l = let z : length (x ∷ l) - length l ≡ 1 = omega arith in rw z

-- ---- what is kept, from call to call

pub record Kept (seeds : Seeds) (s : Course) (ls : Lines) : Type 0 where
  pub requests : AllCourses seeds.requests (λ (i : ℕ) (m : Message). IssuedBy i m s) ls.requests
  pub replies : AllCourses seeds.replies (λ (i : ℕ) (m : Message). Answered i m s) ls.replies

-- what is exchanged stays so
carried-before : (k : Call) (s : Course) (e : Exchange) → In e s.exchanged → In e (carry_out k s).exchanged
carried-before (frame_arrives m a) s e i = there i
carried-before (file_put rows mailboxes m file) s e i = i
carried-before (begins j c params l) s e i = i
carried-before (reply_arrives j c bytes l) s e i = i
carried-before (no_reply j c l) s e i = i
carried-before (journal_handed j c row) s e i = i
carried-before (puts_away m buffer) s e i = i
carried-before (takes_up m image) s e i = i

answered-more : (k : Call) (s : Course) (i : ℕ) (m : Message) → Answered i m s → Answered i m (exec k s)
answered-more k s i m (e, x, r, o) =
    (e, by_number k s (λ (t : Course). In e t.exchanged) x (λ _. carried-before k s e x), r, issued-more k s o)

-- a request that the call issues is its run's
sent-issued : (k : Call) (s : Course) (x : Issue) → In x (added s.issued (exec k s).issued) → IssuedBy x.run x.frame (exec k s)
sent-issued k s x m = (x, in-added s.issued (exec k s).issued m, refl, refl)

-- the bank's answer to a frame that run i issued is a reply to it
module _ (i : ℕ) (m : LentSession) (a : FrameInput) (s : Course)
    (own : call_number (frame_arrives m a) ≡ 0 → IssuedBy i a.frame s) where
  sent-answered : (e : Exchange) → In e (added s.exchanged (exec (frame_arrives m a) s).exchanged) →
      Answered i e.reply (exec (frame_arrives m a) s)
  sent-answered =
      by_number (frame_arrives m a) s (λ (t : Course). (e : Exchange) → In e (added s.exchanged t.exchanged) → Answered i e.reply t)
      (λ e j. absurd (in-none (subst (In e) (none-added s.exchanged) j)))
      (λ z e j.
      let new = in_one (subst (In e) (one-added _ s.exchanged) j) in
      (_, here refl, ap (λ (x : Exchange). x.reply) (sym new), own z))

-- ---- a call

-- what came out of a run's line is its own
pub own : (seeds : Seeds) (m : Move) (n : Net) → Kept seeds n.course n.lines → OverLine m n → Own m n
own seeds m n kept = at (passed m)
  where
    at : (p : Passed) → IsOut p n.lines → IsOwn p n.course
    at (request i x) o = came-out (seeds.requests i) (λ (y : Message). IssuedBy i y n.course) (n.lines.requests i) (kept.requests i) x o
    at (reply i x) o = came-out (seeds.replies i) (λ (y : Message). Answered i y n.course) (n.lines.replies i) (kept.replies i) x o
    at (stray x) o = o
    at none o = o

-- the replies put in are to such requests
replies-own : (m : Move) (n : Net) → (call_number (call_of m) ≡ 0 → Own m n) → (x : Sent) →
    In x (replies_sent m n.course (exec (call_of m) n.course)) →
    Answered x.run x.message (exec (call_of m) n.course)
replies-own (to_bank i m a) n o x j =
    let t = exec (frame_arrives m a) n.course in
    let (e, k, f) = of_map (reply_sent i) _ j in
    subst (λ (y : Sent). Answered y.run y.message t) f (sent-answered i m a n.course o e k)
replies-own (other k) n o x j = absurd (in-none j)

pub call-keeps : (seeds : Seeds) (m : Move) (n : Net) → Kept seeds n.course n.lines →
    (call_number (call_of m) ≡ 0 → Own m n) → Kept seeds (next m n).course (next m n).lines
unfolding next
call-keeps seeds m n kept o =
    let s = n.course in
    let k = call_of m in
    let t = exec k s in
    record {
      requests =
          all-sent seeds.requests (λ (i : ℕ) (x : Message). IssuedBy i x t) _ n.lines.requests
          (λ i. retold (seeds.requests i) (λ (x : Message). IssuedBy i x s) (λ (x : Message). IssuedBy i x t) (λ x. issued-more k s)
          (n.lines.requests i) (kept.requests i))
          (λ x j. let (y, l, f) = of_map request_sent _ j in
          subst (λ (z : Sent). IssuedBy z.run z.message t) f (sent-issued k s y l));
      replies =
          all-sent seeds.replies (λ (i : ℕ) (x : Message). Answered i x t) _ n.lines.replies
          (λ i. retold (seeds.replies i) (λ (x : Message). Answered i x s) (λ (x : Message). Answered i x t) (answered-more k s i)
          (n.lines.replies i) (kept.replies i))
          (replies-own m n o);
    }

pub kept_fresh : (seeds : Seeds) → Kept seeds (fresh_net seeds).course (fresh_net seeds).lines
unfolding fresh_net line.after line.course
kept_fresh seeds = record {
  requests = λ i. ([], λ x m. absurd (in-none m), refl, refl);
  replies = λ i. ([], λ x m. absurd (in-none m), refl, refl);
}
