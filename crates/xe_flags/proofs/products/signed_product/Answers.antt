use Rattle.std.proofs.Common.{◌^◌, ◌*ℤ◌}
use Rattle.std.proofs.lemmas.Int.{to_z-of_z}
use Rattle.xe_flags.proofs.MulLaws.{product_fits, word_fits, shift_fits}
use Rattle.xe_flags.proofs.products.signed_product.Goals as goal

pub overflow_mul-product : goal.overflow_mul-product
overflow_mul-product g c =
    let a = word_fits g.row.W c.signed.result c.signed.ensures.width c.signed.ensures.bound in
    let b = word_fits g.row.W c.signed-2.result c.signed.ensures.width c.signed-2.ensures.bound in
    simp to_z-of_z (product_fits g.row.W c.signed.result c.signed-2.result c.signed.ensures.width c.signed.ensures.bound c.signed-2.ensures.bound)

pub returns-clause-low : goal.returns-clause-low
returns-clause-low g c =
    let a = word_fits g.row.W c.signed.result c.signed.ensures.width c.signed.ensures.bound in
    let b = word_fits g.row.W c.signed-2.result c.signed.ensures.width c.signed-2.ensures.bound in
    let p = product_fits g.row.W c.signed.result c.signed-2.result c.signed.ensures.width c.signed.ensures.bound c.signed-2.ensures.bound in
    let e = simp to_z-of_z at c.wrapped.ensures in
    cc

pub returns-clause-high : goal.returns-clause-high
returns-clause-high g c =
    let a = word_fits g.row.W c.signed.result c.signed.ensures.width c.signed.ensures.bound in
    let b = word_fits g.row.W c.signed-2.result c.signed.ensures.width c.signed-2.ensures.bound in
    let p = product_fits g.row.W c.signed.result c.signed-2.result c.signed.ensures.width c.signed.ensures.bound c.signed-2.ensures.bound in
    let q = shift_fits (c.signed.result *ℤ c.signed-2.result) (2 ^ g.row.W) p in
    let e = simp to_z-of_z at c.wrapped-2.ensures in
    cc

pub returns-clause-wide : goal.returns-clause-wide
returns-clause-wide g c =
    let a = word_fits g.row.W c.signed.result c.signed.ensures.width c.signed.ensures.bound in
    let b = word_fits g.row.W c.signed-2.result c.signed.ensures.width c.signed-2.ensures.bound in
    let p = product_fits g.row.W c.signed.result c.signed-2.result c.signed.ensures.width c.signed.ensures.bound c.signed-2.ensures.bound in
    let e = simp to_z-of_z at c.has_room.ensures in
    cc
