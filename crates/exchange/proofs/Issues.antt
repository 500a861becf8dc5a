-- The requests issued over a list of calls: they stay, and no two have one exchange number. Assumes nothing.
use Rattle.std.specs.Prelude.{Result, Ok, Err}
use Rattle.client_run.specs.declared.run.Refusal.{Refusal}
use Prim.Native.Nat.{ℕ}
use mathlib.Core.List.Memᴰ.{head as here}
use mathlib.Core.List.Memᴰ.{not-nil as in-none}
use mathlib.Core.List.Memᴰ.{tail as there}
use mathlib.Core.List.{List, [], ◌∷◌, map, Memᴰ as In}
use mathlib.Core.Path.{◌≡◌, sym, ap, ◌∙◌, subst}
use Rattle.frame_table.specs.Names.{exchange}
use Rattle.frame_reader.specs.Reader.{read_request}
use Rattle.client_run.specs.declared.run.Answer.{Answer}
use Rattle.client_run.specs.declared.run.Answer.TheVariants as answer
use Rattle.client.specs.Calls.{begin_call, reply_call, no_reply_call}
use Rattle.client_run.specs.Run.{ClientCall}
use Rattle.exchange.specs.Course.{
  Call,
  frame_arrives,
  file_put,
  begins,
  reply_arrives,
  no_reply,
  journal_handed,
  puts_away,
  takes_up,
  Issue,
  Course,
  issued_by,
  carry_out,
  exec,
  after,
}
use Rattle.exchange.specs.Terms.{IssuedBy}
use Rattle.exchange.specs.Demand3.{OneExchangeNumber}
use Rattle.exchange.specs.Lists.{NoDup, more}
use Rattle.exchange.proofs.Calls.{by_number}

-- ---- what grows

-- the requests issued before a call stay: the call issues at most one more
pub data Issues (l : List Issue) : List Issue → Type 0 where
  same : Issues l l
  one : {x : Issue} → Issues l (x ∷ l)

pub in-more : {x : Issue} {l m : List Issue} → Issues l m → In x l → In x m
in-more same k = k
in-more one k = there k

pub run-issues : (s : Course) (i : ℕ) (k : ClientCall) (a : Result Answer Refusal) → Issues s.issued (issued_by a i k s)
run-issues s i k (Ok (answer.Request n)) = one
run-issues s i k (Ok answer.Ignored) = same
run-issues s i k (Ok (answer.Closed w)) = same
run-issues s i k (Err r) = same

carried-issues : (k : Call) (s : Course) → Issues s.issued (carry_out k s).issued
carried-issues (frame_arrives m a) s = same
carried-issues (file_put rows mailboxes m file) s = same
carried-issues (begins i c params l) s = let k = begin_call c params l in run-issues s i k k.answer
carried-issues (reply_arrives i c reply l) s = let k = reply_call c reply l in run-issues s i k k.answer
carried-issues (no_reply i c l) s = let k = no_reply_call c l in run-issues s i k k.answer
carried-issues (journal_handed i c row) s = same
carried-issues (puts_away m buffer) s = same
carried-issues (takes_up m image) s = same

pub call-issues : (k : Call) (s : Course) → Issues s.issued (exec k s).issued
call-issues k s = by_number k s (λ (t : Course). Issues s.issued t.issued) same (λ _. carried-issues k s)

pub issued-more : (k : Call) (s : Course) {i : ℕ} {frame : List ℕ} → IssuedBy i frame s → IssuedBy i frame (exec k s)
issued-more k s (x, m, r, f) = (x, in-more (call-issues k s) m, r, f)

-- ---- exchange numbers

abbrev pub number_of : Issue → ℕ
number_of x = exchange (read_request x.frame)

mapped : {x : Issue} {l : List Issue} → In x l → In (number_of x) (map number_of l)
mapped (here e) = here (ap number_of e)
mapped (there m) = there (mapped m)

one_by_one : {x y : Issue} (l : List Issue) → NoDup (map number_of l) → In x l → In y l → number_of x ≡ number_of y → x ≡ y
one_by_one [] d m n e = absurd (in-none m)
one_by_one (z ∷ l) (more f d) (here a) (here b) e = a ∙ sym b
one_by_one (z ∷ l) (more f d) (here a) (there n) e = absurd (f (subst (λ (k : ℕ). In k (map number_of l)) (sym e ∙ ap number_of a)
    (mapped n)))
one_by_one (z ∷ l) (more f d) (there m) (here b) e = absurd (f (subst (λ (k : ℕ). In k (map number_of l)) (e ∙ ap number_of b) (mapped m)))
one_by_one (z ∷ l) (more f d) (there m) (there n) e = one_by_one l d m n e

-- "no two requests of the list were issued under one exchange number"
pub one-issue : (s : Course) → OneExchangeNumber s → {x y : Issue} → In x s.issued → In y s.issued → number_of x ≡ number_of y → x ≡ y
unfolding OneExchangeNumber
one-issue s n = one_by_one s.issued n

fewer : {l m : List Issue} → Issues l m → NoDup (map number_of m) → NoDup (map number_of l)
fewer same d = d
fewer one (more f d) = d

-- it was so before the last call too, and before the last calls
pub numbers-earlier : (k : Call) (s : Course) → OneExchangeNumber (exec k s) → OneExchangeNumber s
unfolding OneExchangeNumber
numbers-earlier k s n = fewer (call-issues k s) n

pub numbers-before : (ks : List Call) (s : Course) → OneExchangeNumber (after ks s) → OneExchangeNumber s
unfolding after
numbers-before [] s n = n
numbers-before (k ∷ ks) s n = numbers-earlier k s (numbers-before ks (exec k s) n)
