-- Number 1, then number 9, nothing changed; else numbers, stores and row are the image's. Assumes nothing.
use Rattle.std.specs.Prelude.{◌≡◌, true, false, length}
use mathlib.Core.Path.{sym, ◌∙◌}
use native.Mathlib.Omega.{arith}
use Rattle.bank_session.specs.Session.{session}
use Rattle.image_calls.specs.Calls.{sizes_right, is_admitted_image}
use Rattle.image_calls.proofs.Tests.{store-size, sizes-are, lengths-are}
use Rattle.image_calls.proofs.Taking.{stores-taken, admitted-long, up-lengths, up-not, refused-is, done-is}
use borrow.Author.Rules.{rules}
use Rattle.image_calls.proofs.told.take_up_core.Goals as goal

pub returns-then-not-sizes_right : goal.returns-then-not-sizes_right
returns-then-not-sizes_right c l e =
    let a = c.args in
    let wrong = sym c.sizes_right.ensures ∙ c.if-not-sizes_right.true in
    refused-is a.rows.now a.orders.now a.mailboxes.now l _ a.image.now _ _ _ c.refused.ensures
    (up-lengths (session a.rows.now l a.orders.now a.mailboxes.now) a.image.now
    (lengths-are a.rows.now a.orders.now a.mailboxes.now l a.records e false wrong))

pub returns-then-not-read_admitted : goal.returns-then-not-read_admitted
returns-then-not-read_admitted c l e =
    let lengths : let a = c.args in
    sizes_right (length a.rows.now) a.records (length a.orders.now) (length a.mailboxes.now) ≡ true = sym c.sizes_right.ensures ∙ c.if-not-sizes_right.false in
    let a = c.args in
    let right = lengths-are a.rows.now a.orders.now a.mailboxes.now l a.records e true (lengths) in
    refused-is a.rows.now a.orders.now a.mailboxes.now l _ a.image.now _ _ _ c.refused-then-not-read_admitted.ensures
    (up-not (session a.rows.now l a.orders.now a.mailboxes.now) a.image.now right
    (sym c.read_admitted.ensures.0 ∙ c.if-not-read_admitted.true))

pub scatter-requires : goal.scatter-requires
scatter-requires c =
    let lengths : let a = c.args in
    sizes_right (length a.rows.now) a.records (length a.orders.now) (length a.mailboxes.now) ≡ true = sym c.sizes_right.ensures ∙ c.if-not-sizes_right.false in
    let a = c.args in
    (search rules, (sizes-are (length a.rows.now) a.records (length a.orders.now) (length a.mailboxes.now) (lengths)).0)

pub take_stores-requires : goal.take_stores-requires
take_stores-requires c =
    let lengths : let a = c.args in
    sizes_right (length a.rows.now) a.records (length a.orders.now) (length a.mailboxes.now) ≡ true = sym c.sizes_right.ensures ∙ c.if-not-sizes_right.false in
    let holds : is_admitted_image c.args.image.now ≡ true = sym c.read_admitted.ensures.0 ∙ c.if-not-read_admitted.false in
    let a = c.args in
    let sizes = sizes-are (length a.rows.now) a.records (length a.orders.now) (length a.mailboxes.now) (lengths) in (
      admitted-long a.image.now (holds),
      omega (arith, sizes.2, sizes.3, store-size),
      omega (arith, sizes.2, sizes.3, store-size),
    )

pub returns : goal.returns
returns c l e =
    let lengths : let a = c.args in
    sizes_right (length a.rows.now) a.records (length a.orders.now) (length a.mailboxes.now) ≡ true = sym c.sizes_right.ensures ∙ c.if-not-sizes_right.false in
    let holds : is_admitted_image c.args.image.now ≡ true = sym c.read_admitted.ensures.0 ∙ c.if-not-read_admitted.false in
    let a = c.args in
    let right = lengths-are a.rows.now a.orders.now a.mailboxes.now l a.records e true (lengths) in
    let told = stores-taken a.image.now _ _ c.take_stores.ensures in
    done-is a.rows.now a.orders.now a.mailboxes.now l a.image.now right (holds) _ _ _ _ _
    (c.read_admitted.ensures.1 (c.if-not-read_admitted.false))
    c.scatter.ensures c.row_from.ensures
    told.0 told.1
