-- `take_stores` meets its contract: each store is the part of the image at its place. Assumes nothing.
use Rattle.image.proofs.Calls.{orders-within, mailboxes-within, stores-taken}
use Rattle.image.proofs.codec.take_stores.Goals as goal

pub take_store-requires : goal.take_store-requires
take_store-requires c =
    let a = c.args in
    orders-within c.image_sizes-f.result c.image_sizes-f.ensures a.image.now a.orders.now c.requires.0 c.requires.1

pub take_store-requires-2 : goal.take_store-requires-2
take_store-requires-2 c =
    let a = c.args in
    mailboxes-within c.image_sizes-f.result c.image_sizes-f.ensures a.image.now a.mailboxes.now c.requires.0 c.requires.2

pub returns : goal.returns
returns c =
    let a = c.args in
    stores-taken c.image_sizes-f.result c.image_sizes-f.ensures a.image.now a.orders.now a.mailboxes.now _ _
    c.requires.1 c.requires.2 c.take_store.ensures c.take_store-2.ensures
