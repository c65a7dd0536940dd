-- What a write took is written behind what was written before.
use Rattle.std.proofs.Common.{◌++◌, take}
use Rattle.std.proofs.KnownBytes.{Appends-trans}
use Rattle.streams.proofs.Known.{taken_off-rest}
use Rattle.streams.proofs.write_every.Goals as goal

pub loop-rest-preserved : goal.loop-rest-preserved
loop-rest-preserved g c =
    let (done, split, appended) = c.loop-rest.invariant in
    let rest = c.loop-rest.rest.now in
    let n = c.in_ok-n.n in
    (done ++ take n rest, taken_off-rest _ done rest n split, Appends-trans _ _ _ _ _ appended c.in_ok-n.ensures.bytes)
