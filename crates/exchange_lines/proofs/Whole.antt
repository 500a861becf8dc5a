-- Each request that a run issues is put into its line, and each reply to what came out of it: a call adds at most one of
-- either, and that one is put in. Assumes nothing.
use Prim.Native.Nat.{ℕ}
use mathlib.Core.Bool.{Bool, true, false, cond}
use mathlib.Core.List.{List, [], ◌∷◌, map}
use mathlib.Core.Path.{◌≡◌, refl, sym, ap, ◌∙◌}
use lib.Dec.{eqb}
use borrow.Author.Tests.{eqb-true, eq-eqb}
use Rattle.exchange.specs.Course.{frame_arrives, Issue, Exchange, Course, start}
use Rattle.exchange.proofs.Calls.{carried}
use Rattle.exchange.proofs.Issues.{Issues, same, one, call-issues}
use Rattle.exchange_lines.specs.Lines.{
  InUse,
  unused,
  carry,
  Net,
  fresh_net,
  Move,
  call_of,
  send_all,
  request_sent,
  reply_sent,
  added,
  next,
  net_after,
}
use Rattle.exchange_lines.specs.Claims.{requests_of, carry_all, RequestsWhole, RepliesPut}
use Rattle.exchange_lines.proofs.Kept.{none-added, one-added}

-- ---- requests

module _ (seed : ℕ → ℕ) where
  -- the lines of these requests
  abbrev Whole : (ℕ → InUse) → List Issue → Type 0
  Whole us l = (i : ℕ) → us i ≡ carry_all (requests_of i l) (unused (seed i))

  one-whole : (us : ℕ → InUse) (x : Issue) (l : List Issue) → Whole us l → Whole (send_all (request_sent x ∷ []) us) (x ∷ l)
  one-whole us x l w i = at (eqb i x.run) refl
    where
      at : (b : Bool) → eqb i x.run ≡ b →
          cond b (carry x.frame (us x.run)) (us i) ≡ carry_all (cond b (x.frame ∷ requests_of i l) (requests_of i l)) (unused (seed i))
      at true e = ap (λ (j : ℕ). carry x.frame (us j)) (sym (eqb-true i x.run e)) ∙ ap (carry x.frame) (w i)
      at false e = w i

  added-whole : (us : ℕ → InUse) (l : List Issue) {now : List Issue} → Issues l now → Whole us l →
      Whole (send_all (map request_sent (added l now)) us) now
  added-whole us l same w i = ap (λ (xs : List Issue). send_all (map request_sent xs) us i) (none-added l) ∙ w i
  added-whole us l (one {x}) w i =
      ap (λ (xs : List Issue). send_all (map request_sent xs) us i) (one-added x l) ∙ one-whole us x l w i

  all_whole : (ms : List Move) (n : Net) → Whole n.lines.requests n.course.issued →
      Whole (net_after ms n).lines.requests (net_after ms n).course.issued
  unfolding net_after next
  all_whole [] n w = w
  all_whole (m ∷ ms) n w =
      all_whole ms (next m n) (added-whole n.lines.requests n.course.issued (call-issues (call_of m) n.course) w)

pub requests-whole : RequestsWhole
unfolding RequestsWhole fresh_net start
requests-whole seeds ms i = all_whole seeds.requests ms (fresh_net seeds) (λ j. refl) i

-- ---- replies

one-put : (i : ℕ) (us : ℕ → InUse) (e : Exchange) (l : List Exchange) →
    send_all (map (reply_sent i) (added l (e ∷ l))) us i ≡ carry e.reply (us i)
one-put i us e l =
    ap (λ (es : List Exchange). send_all (map (reply_sent i) es) us i) (one-added e l)
    ∙ ap (λ (b : Bool). cond b (carry e.reply (us i)) (us i)) (eq-eqb i i refl)

pub replies-put : RepliesPut
unfolding RepliesPut next
replies-put i m a n z =
    let s = n.course in
    let us = n.lines.replies in
    ap (λ (t : Course). send_all (map (reply_sent i) (added s.exchanged t.exchanged)) us i) (carried (frame_arrives m a) s z)
    ∙ one-put i us _ s.exchanged
