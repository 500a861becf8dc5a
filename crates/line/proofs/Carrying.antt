-- What each decision leaves of lent memory is what the definition says; the row after the generator has moved. Assumes
-- nothing.
use Rattle.std.specs.Prelude.{Some}
use Rattle.std.specs.Prelude.{None}
use Rattle.line.specs.Calls.{out_of}
use Rattle.std.specs.Prelude.{Ok}
use Rattle.std.specs.Prelude.{Result}
use Prim.Native.Nat.{ℕ, ◌≤◌, ◌<◌}
use mathlib.Core.Bool.{true}
use mathlib.Core.List.{List, [], ◌∷◌}
use mathlib.Core.Path.{◌≡◌, refl, sym, ap, ◌∙◌}
use native.Mathlib.Omega.{arith}
use lib.ListN.{length, get_or, take, drop, set}
use lib.Seq.{get_or-drop, get_or-set_same}
use borrow.Author.Tests.{eqb-true, leb-true}
use Rattle.octets.specs.Bytes.{overwrite}
use Rattle.octets.proofs.Tests.{and-true}
use Rattle.octets.proofs.Numbers.{overwrite-nil}
use Rattle.line.specs.declared.decision.Decision.{Decision}
use Rattle.line.specs.declared.decision.Decision.TheVariants.{Lose, Hold}
use Rattle.number_table.specs.declared.table.WrongLength.{WrongLength}
use Rattle.line.specs.declared.calls.Delivery.{Delivery}
use Rattle.line.specs.Generator.{moved}
use Rattle.line.specs.Line.{
  Message,
  message_bytes,
  Line,
  line,
  oldest,
  with_newest,
  without_oldest,
  decision,
  delivered,
  carried_out,
  stepped,
  decided,
  put,
}
use Rattle.line.specs.Memory.{value_at, lengths_at, store_bytes, joined, count_of, line_of, row_of, store_of, Laid, Released}
use Rattle.line.specs.Calls.{answer_for, put_call_of, put_left, is_fit, put_call}
use Rattle.line.proofs.Lists.{joined-one}
use Rattle.line.proofs.Moves.{moved-lt, moved-zero}
use Rattle.line.proofs.Rows.{laid, two-first, row-own, store-own, count-own, value-own}

-- equal in all parts
pub put_same : {a a' : Result Delivery WrongLength} {r r' s s' o o' : List ℕ} → a ≡ a' → r ≡ r' → s ≡ s' → o ≡ o'
    → put_call_of a r s o ≡ put_call_of a' r' s' o'
put_same p q t u = cc

-- ---- nothing comes out, and nothing changes

none_out : (l : Line) → l.held ≡ [] → without_oldest l ≡ l
none_out l e = ap (line l.value) (ap (λ (x : List Message). drop 1 x) e ∙ sym e)

module _ (row s : List ℕ) (l : Laid row) (h : length s ≡ store_bytes) where
  pub nothing_left : (o : List ℕ) (m : Message) → put_call_of (Ok (out_of 0 None)) row s o ≡ put_left (carried_out Lose (line_of row s) m) s o
  unfolding carried_out joined
  nothing_left o m = put_same refl (sym (row-own row l s h)) (sym (store-own row l s h)) (sym (overwrite-nil o 0))

  -- the message is held
  pub held-left : (o row' s' : List ℕ) (m : Message) → row' ≡ row_of (with_newest m (line_of row s))
      → s' ≡ store_of (with_newest m (line_of row s)) s
      → put_call_of (Ok (out_of 0 None)) row' s' o ≡ put_left (carried_out Hold (line_of row s) m) s o
  unfolding carried_out joined
  held-left o row' s' m p q = put_same refl p q (sym (overwrite-nil o 0))

  -- copies come out, and no message was held
  none_first : (held : List Message) → length held ≡ 0 → held ≡ []
  none_first [] e = refl
  none_first (m ∷ held) e = absurd (omega arith)

  one-first : (held : List Message) → 0 < length held → take 1 held ≡ get_or held 0 [] ∷ []
  one-first [] e = absurd (omega arith)
  one-first (m ∷ held) e = refl

  pub none-released : (o : List ℕ) (n : ℕ) → count_of row ≡ 0 → put_call_of (Ok (out_of n None)) row s o ≡ put_left (delivered n (line_of row s)) s o
  unfolding joined
  none-released o n e =
      let k : (line_of row s).held ≡ [] = none_first (line_of row s).held (count-own row l s h ∙ e) in
      let w : without_oldest (line_of row s) ≡ line_of row s = none_out (line_of row s) k in
      put_same (ap (λ (x : List Message). answer_for n (take 1 x)) (sym k)) (sym (row-own row l s h) ∙ ap row_of (sym w))
      (sym (store-own row l s h) ∙ ap (λ (x : Line). store_of x s) (sym w))
      (sym (ap (λ (x : List Message). overwrite o 0 (joined (take 1 x))) k ∙ overwrite-nil o 0))

  -- copies come out, and after them the message held longest
  pub one-released : (o row' s' o' : List ℕ) (n k : ℕ) → 0 < count_of row → Released (line_of row s) s o k row' s' o'
      → put_call_of (Ok (out_of n (Some k))) row' s' o' ≡ put_left (delivered n (line_of row s)) s o
  one-released o row' s' o' n k e r =
      let f = one-first (line_of row s).held (omega (arith, count-own row l s h)) in
      put_same (ap (λ (m : ℕ). Ok (out_of n (Some m))) r.long ∙ ap (answer_for n) (sym f)) r.row r.bytes
      (r.buffer ∙ ap (overwrite o 0) (sym (joined-one (oldest (line_of row s))) ∙ ap joined (sym f)))

-- ---- the generator moves

laid-step : (row : List ℕ) → Laid row → Laid (set row value_at (moved (get_or row value_at 0)))
laid-step row l =
    two-first (λ (r : List ℕ). Laid r → Laid (set r value_at (moved (get_or r value_at 0))))
    (λ v n ks q.
    let z : moved v ≡ 0 → ⊥ = λ e. let o = moved-zero v q.word e in let k = q.live in omega arith in
    record {
      long = q.long;
      live = omega (arith, z);
      word = moved-lt v q.word;
      most = q.most;
      lengths =
          λ i h.
          let a = get_or-drop lengths_at (v ∷ n ∷ ks) i 0 in
          let b = get_or-drop lengths_at (moved v ∷ n ∷ ks) i 0 in
          omega (arith, q.lengths i h);
    })
    row l.long l

line_step : (row s : List ℕ) → Laid row → line_of (set row value_at (moved (get_or row value_at 0))) s ≡ stepped (line_of row s)
unfolding line_of stepped
line_step row s l =
    two-first (λ (r : List ℕ). line_of (set r value_at (moved (get_or r value_at 0))) s ≡ stepped (line_of r s)) (λ v n ks. refl) row l.long

-- the row, and the value, after the generator has moved
module _ (row : List ℕ) (l : Laid row) (row' : List ℕ) (v : ℕ) (p : v ≡ moved (get_or row value_at 0)) (q : row' ≡ set row value_at v) where
  moved_row : row' ≡ set row value_at (moved (get_or row value_at 0))
  moved_row = q ∙ ap (set row value_at) p

  pub laid-after : Laid row'
  laid-after = rw moved_row (laid-step row l)

  value_after : v ≡ get_or row' value_at 0
  value_after = sym (ap (λ (r : List ℕ). get_or r value_at 0) q ∙ get_or-set_same row value_at v 0 (omega (arith, l.long)))

  module _ (s : List ℕ) where
    pub line_after : line_of row' s ≡ stepped (line_of row s)
    line_after = ap (λ (r : List ℕ). line_of r s) moved_row ∙ line_step row s l

    pub decided-after : length s ≡ store_bytes → decision v (count_of row') ≡ decided (line_of row' s)
    decided-after h =
        ap (λ (x : ℕ). decision x (count_of row')) value_after
        ∙ ap (decision (get_or row' value_at 0)) (sym (count-own row' laid-after s h))
        ∙ ap (λ (x : ℕ). decision x (length (line_of row' s).held)) (sym (value-own row' s))

-- ---- a message is put in

-- what the test of a call tells
pub record Fit (row : List ℕ) (store message out : ℕ) : Type 0 where
  pub sound : Laid row
  pub stored : store ≡ store_bytes
  pub short : message ≤ message_bytes
  pub wide : message_bytes ≤ out

pub fit : (row : List ℕ) (store message out : ℕ) → is_fit row store message out ≡ true → Fit row store message out
unfolding is_fit
fit row store message out h =
    let a = and-true _ _ h in
    let b = and-true _ _ a.1 in
    let d = and-true _ _ b.1 in
    record { sound = laid row a.0; stored = eqb-true _ _ b.0; short = leb-true _ _ d.0; wide = leb-true _ _ d.1 }

pub put_is : (row s m o row' : List ℕ) (d : Decision) → is_fit row (length s) (length m) (length o) ≡ true
    → line_of row' s ≡ stepped (line_of row s) → d ≡ decided (line_of row' s)
    → put_left (carried_out d (line_of row' s) m) s o ≡ put_call row s m o
unfolding put_call put
put_is row s m o row' d f e k = rw (f, k, e)
