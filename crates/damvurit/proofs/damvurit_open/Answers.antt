-- The centre's call is this one, on the directory that the numbers are; an opening number is small, so that as many units as it says fit.
use native.Mathlib.Omega.{arith}
use Rattle.damvurit.specs.Flat.{flat_directory}
use Rattle.damvurit.proofs.Called.{plain, open-called, opening-few, result-few, open-result}
use Rattle.damvurit.proofs.Details.{open_plain, opening-told}
use Rattle.damvurit.proofs.damvurit_open.Goals as goal

pub result_of-requires : goal.result_of-requires
result_of-requires c =
    let called = open-called c.args.dir.now c.gather_flat.result c.gather_flat.ensures c.open_among-answer.result c.args.seat c.args.sums.now
    c.args.room.now c.open_among-answer.new.room (c.open_among-answer.ensures.result_value, c.open_among-answer.ensures.room_after) in
    plain c.open_among-answer.result _ called.0 (open_plain (flat_directory c.args.dir.now) c.args.seat c.args.sums.now c.args.room.now)

pub overflow_mul-result : goal.overflow_mul-result
overflow_mul-result c =
    let called = open-called c.args.dir.now c.gather_flat.result c.gather_flat.ensures c.open_among-answer.result c.args.seat c.args.sums.now
    c.args.room.now c.open_among-answer.new.room (c.open_among-answer.ensures.result_value, c.open_among-answer.ensures.room_after) in
    let few = opening-few c.open_among-answer.result _ called.0
    (open_plain (flat_directory c.args.dir.now) c.args.seat c.args.sums.now c.args.room.now)
    (opening-told (flat_directory c.args.dir.now) c.args.seat c.args.sums.now c.args.room.now)
    c.result_of.result c.opening_in.result c.result_of.ensures c.opening_in.ensures in
    omega arith

pub overflow_add-result : goal.overflow_add-result
overflow_add-result c =
    let called = open-called c.args.dir.now c.gather_flat.result c.gather_flat.ensures c.open_among-answer.result c.args.seat c.args.sums.now
    c.args.room.now c.open_among-answer.new.room (c.open_among-answer.ensures.result_value, c.open_among-answer.ensures.room_after) in
    let none = open_plain (flat_directory c.args.dir.now) c.args.seat c.args.sums.now c.args.room.now in
    let told = opening-told (flat_directory c.args.dir.now) c.args.seat c.args.sums.now c.args.room.now in
    let few = opening-few c.open_among-answer.result _ called.0 none told c.result_of.result c.opening_in.result c.result_of.ensures
    c.opening_in.ensures in
    let small = result-few c.open_among-answer.result _ called.0 none told c.result_of.result c.opening_in.result c.result_of.ensures
    c.opening_in.ensures in
    omega arith

pub returns : goal.returns
returns c =
    let called = open-called c.args.dir.now c.gather_flat.result c.gather_flat.ensures c.open_among-answer.result c.args.seat c.args.sums.now
    c.args.room.now c.open_among-answer.new.room (c.open_among-answer.ensures.result_value, c.open_among-answer.ensures.room_after) in
    record {
      result_value = open-result c.open_among-answer.result _ called.0
          (open_plain (flat_directory c.args.dir.now) c.args.seat c.args.sums.now c.args.room.now)
          (opening-told (flat_directory c.args.dir.now) c.args.seat c.args.sums.now c.args.room.now)
          c.result_of.result c.opening_in.result c.result_of.ensures c.opening_in.ensures;
      room_after = called.1;
    }
