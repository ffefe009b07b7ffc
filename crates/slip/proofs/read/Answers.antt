-- The length says the form, and the form's own tests are made on the number that the bytes are.
use mathlib.Core.Path.{◌≡◌}
use mathlib.Core.Bool.{true, false}
use native.Mathlib.Omega.{arith}
use lib.ListN.{length}
use Rattle.slip.specs.Meaning.{measures, form_of}
use Rattle.slip.proofs.Bytes.{other-length, five, six, right-length}
use Rattle.slip.proofs.read.Goals as goal
use Rattle.slip.proofs.read.Goals.{in-5, in-6}

pub returns-in_default : goal.returns-in_default
returns-in_default c = other-length c.args.bytes.now (λ e. omega arith) (λ e. omega arith)

pub returns-then-spare_zero-is_slip : goal.returns-then-spare_zero-is_slip
returns-then-spare_zero-is_slip c =
    let says : c.match-bytes.form ≡ form_of (length c.args.bytes.now) =
    elim c.match-bytes.branch [
      | in-5 w ↦ rw w.form-is (five c.args.bytes.now (omega arith))
      | in-6 w ↦ rw w.form-is (six c.args.bytes.now (omega arith))
    ] in
    let long : length c.args.bytes.now ≡ (measures c.match-bytes.form).long =
    elim c.match-bytes.branch [
      | in-5 w ↦ rw w.form-is (omega arith)
      | in-6 w ↦ rw w.form-is (omega arith)
    ] in
    right-length c.args.bytes.now c.match-bytes.form says long
    c.number_in-n.result c.values_in-s.result c.spare_zero.result c.is_slip.result true
    c.number_in-n.ensures c.values_in-s.ensures c.spare_zero.ensures c.is_slip.ensures c.if-spare_zero-is_slip.true

pub returns : goal.returns
returns c =
    let says : c.match-bytes.form ≡ form_of (length c.args.bytes.now) =
    elim c.match-bytes.branch [
      | in-5 w ↦ rw w.form-is (five c.args.bytes.now (omega arith))
      | in-6 w ↦ rw w.form-is (six c.args.bytes.now (omega arith))
    ] in
    let long : length c.args.bytes.now ≡ (measures c.match-bytes.form).long =
    elim c.match-bytes.branch [
      | in-5 w ↦ rw w.form-is (omega arith)
      | in-6 w ↦ rw w.form-is (omega arith)
    ] in
    right-length c.args.bytes.now c.match-bytes.form says long
    c.number_in-n.result c.values_in-s.result c.spare_zero.result c.is_slip.result false
    c.number_in-n.ensures c.values_in-s.ensures c.spare_zero.ensures c.is_slip.ensures c.if-spare_zero-is_slip.false
