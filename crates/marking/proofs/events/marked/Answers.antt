-- `marking::events::marked` meets its contract, by the cases of the mark. Assumes nothing.
use Rattle.marking.proofs.MarkLaws.{rotation_in, measure_in, reset_in, ccx_in, ccz_in, rotation_of_lem, measure_of, ccx_of, ccz_of}
use Rattle.std.proofs.Common.{is_ok}
use Rattle.marking.proofs.events.marked.Goals as goal

pub rotate-requires : goal.rotate-requires
rotate-requires c =
    (c.requires.0, c.requires.1, rotation_in c.args.z.now.n c.args.mark c.requires.2 c.in-Rotation.kind c.in-Rotation.q c.in-Rotation.tag c.in-Rotation.is)

pub block-requires : goal.block-requires
block-requires c =
    (c.requires.0, c.requires.1, measure_in c.args.z.now.n c.args.mark c.requires.2 c.in-Measure.q c.in-Measure.is)

pub block_both-requires : goal.block_both-requires
block_both-requires c =
    (c.requires.0, c.requires.1, reset_in c.args.z.now.n c.args.mark c.requires.2 c.in-Reset.q c.in-Reset.is)

pub block_products-requires : goal.block_products-requires
block_products-requires c =
    let w = ccx_in c.args.z.now.n c.args.mark c.requires.2 c.in-Ccx.a c.in-Ccx.b c.in-Ccx.t c.in-Ccx.is in
    (c.requires.0, c.requires.1, w.first, w.second, w.third)

pub block_products-requires-in-Ccz : goal.block_products-requires-in-Ccz
block_products-requires-in-Ccz c =
    let w = ccz_in c.args.z.now.n c.args.mark c.requires.2 c.in-Ccz.a c.in-Ccz.b c.in-Ccz.t c.in-Ccz.is in
    (c.requires.0, c.requires.1, w.first, w.second, w.third)

pub returns-in-Rotation : goal.returns-in-Rotation
returns-in-Rotation c =
    let a = c.args in
    let x = c.rotate in
    rotation_of_lem a.mark a.s.now x.new.s (is_ok x.result) c.in-Rotation.kind c.in-Rotation.q c.in-Rotation.tag c.in-Rotation.is x.ensures.done

pub returns-in-Measure : goal.returns-in-Measure
returns-in-Measure c =
    let a = c.args in
    let x = c.block in
    measure_of a.mark a.s.now x.new.s (is_ok x.result) c.in-Measure.q c.in-Measure.is x.ensures.done

pub returns-in-Ccx : goal.returns-in-Ccx
returns-in-Ccx c =
    let a = c.args in
    let x = c.block_products in
    ccx_of a.mark a.s.now x.new.s (is_ok x.result) c.in-Ccx.a c.in-Ccx.b c.in-Ccx.t c.in-Ccx.is x.ensures.done

pub returns-in-Ccz : goal.returns-in-Ccz
returns-in-Ccz c =
    let a = c.args in
    let x = c.block_products-in-Ccz in
    ccz_of a.mark a.s.now x.new.s (is_ok x.result) c.in-Ccz.a c.in-Ccz.b c.in-Ccz.t c.in-Ccz.is x.ensures.done
