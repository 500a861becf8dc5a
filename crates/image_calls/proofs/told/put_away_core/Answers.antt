-- Number 1, then number 9, then the codec writes the numbers gathered. Assumes nothing.
use Rattle.std.specs.Prelude.{◌≡◌, ◌≤◌, true, false, length}
use mathlib.Core.Path.{sym, ap, ◌∙◌}
use native.Mathlib.Omega.{arith}
use Rattle.image.specs.declared.table.Sizes.{Sizes}
use Rattle.bank_session.specs.Session.{session}
use Rattle.image_calls.specs.Calls.{image_length, sizes_right}
use Rattle.image_calls.proofs.Tests.{sizes-are, lengths-are}
use Rattle.image_calls.proofs.Putting.{not_listed, away-lengths, away-short, away-not, away-written, told-listed, told-written}
use borrow.Author.Rules.{rules}
use Rattle.image_calls.proofs.told.put_away_core.Goals as goal

pub returns-then-not-sizes_right : goal.returns-then-not-sizes_right
returns-then-not-sizes_right c l e k =
    let a = c.args in
    let wrong = sym c.sizes_right.ensures ∙ c.if-not-sizes_right.true in
    away-lengths (session a.rows.now l a.orders.now a.mailboxes.now) a.buffer.now
    (lengths-are a.rows.now a.orders.now a.mailboxes.now l a.records e false wrong)

pub returns-then-buffer-image_sizes : goal.returns-then-buffer-image_sizes
returns-then-buffer-image_sizes c l e k =
    let lengths : let a = c.args in
    sizes_right (length a.rows.now) a.records (length a.orders.now) (length a.mailboxes.now) ≡ true = sym c.sizes_right.ensures ∙ c.if-not-sizes_right.false in
    let a = c.args in
    let right = lengths-are a.rows.now a.orders.now a.mailboxes.now l a.records e true (lengths) in
    away-short (session a.rows.now l a.orders.now a.mailboxes.now) a.buffer.now right
    (omega (arith, c.if-buffer-image_sizes.true, ap (λ (x : Sizes). x.image) c.image_sizes.ensures))

pub gather-requires : goal.gather-requires
gather-requires c =
    let lengths : let a = c.args in
    sizes_right (length a.rows.now) a.records (length a.orders.now) (length a.mailboxes.now) ≡ true = sym c.sizes_right.ensures ∙ c.if-not-sizes_right.false in
    let a = c.args in
    ((sizes-are (length a.rows.now) a.records (length a.orders.now) (length a.mailboxes.now) (lengths)).0, search rules)

pub returns-then-not-admitted : goal.returns-then-not-admitted
returns-then-not-admitted c l e k =
    let lengths : let a = c.args in
    sizes_right (length a.rows.now) a.records (length a.orders.now) (length a.mailboxes.now) ≡ true = sym c.sizes_right.ensures ∙ c.if-not-sizes_right.false in
    let room : let a = c.args in
    image_length ≤ length a.buffer.now = omega (arith, c.if-buffer-image_sizes.false, ap (λ (x : Sizes). x.image) c.image_sizes.ensures) in
    let a = c.args in
    let m = session a.rows.now l a.orders.now a.mailboxes.now in
    let sizes = sizes-are (length a.rows.now) a.records (length a.orders.now) (length a.mailboxes.now) (lengths) in
    let right = lengths-are a.rows.now a.orders.now a.mailboxes.now l a.records e true (lengths) in
    away-not m a.buffer.now right (room)
    (not_listed m
    (told-listed a.rows.now a.orders.now a.mailboxes.now a.row l _ c.gather.ensures (k sizes.1) _
    c.admitted.ensures false (c.if-not-admitted.true)))

pub returns : goal.returns
returns c l e k =
    let lengths : let a = c.args in
    sizes_right (length a.rows.now) a.records (length a.orders.now) (length a.mailboxes.now) ≡ true = sym c.sizes_right.ensures ∙ c.if-not-sizes_right.false in
    let room : let a = c.args in
    image_length ≤ length a.buffer.now = omega (arith, c.if-buffer-image_sizes.false, ap (λ (x : Sizes). x.image) c.image_sizes.ensures) in
    let a = c.args in
    let m = session a.rows.now l a.orders.now a.mailboxes.now in
    let sizes = sizes-are (length a.rows.now) a.records (length a.orders.now) (length a.mailboxes.now) (lengths) in
    let right = lengths-are a.rows.now a.orders.now a.mailboxes.now l a.records e true (lengths) in
    away-written m a.buffer.now right (room)
    (told-listed a.rows.now a.orders.now a.mailboxes.now a.row l _ c.gather.ensures (k sizes.1) _
    c.admitted.ensures true (c.if-not-admitted.false))
    _ _
    (told-written a.rows.now a.orders.now a.mailboxes.now a.row l _ c.gather.ensures (k sizes.1) _ _ _ c.write.ensures)
    _ c.away_of.ensures
