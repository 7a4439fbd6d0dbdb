use Rattle.std.proofs.Common.{arith, ◌≡◌, ◌+◌, ◌≤◌, length, vec_len}
use Rattle.std.proofs.lemmas.Result.{err_from_is_err_and}
use Rattle.melt_io.proofs.Told.{TakesFront-nothing, TakesFront-on, TakesFront-all, TakesCount-front, TakesCount-after}
use Rattle.melt_io.proofs.whole.read_all.Goals as goal

pub loop-bytes-init : goal.loop-bytes-init
loop-bytes-init g c = record {
  piece = omega (arith, c.in_ok-piece.ensures.len);
  within = omega (arith, c.new-bytes.ensures.len);
  taken = rw c.new-bytes.ensures.items (TakesFront-nothing _);
  count = omega arith;
}

pub returns-in_err-read_more-clause-front : goal.returns-in_err-read_more-clause-front
returns-in_err-read_more-clause-front g c =
    let bytes = c.loop-bytes.bytes in
    let front = c.in_err-read_more.ensures.front in
    let len : length bytes.items ≡ vec_len bytes = cc (bytes.ok.0) in
    let within : length bytes.items + front.0 ≤ c.args.limit + 1 = omega (arith, front.1, len) in
    let out =
    err_from_is_err_and c.from_residual-in_err-read_more.result c.from_residual-in_err-read_more.ensures.1
    in (
      length bytes.items + front.0,
      within,
      TakesCount-after _ _ _ _ _ c.loop-bytes.invariant.taken front.2,
      (
        (λ h. omega (arith, len, front.3.0 (cc (out.1, out.2)))),
        (λ h. let told = front.3.1 (omega (arith, len)) in cc (out.1, out.2, told)),
      ),
    )

pub loop-bytes-preserved : goal.loop-bytes-preserved
loop-bytes-preserved g c = record {
  piece = c.loop-bytes.invariant.piece;
  within = c.in_ok-read_more.ensures.within;
  taken = TakesFront-on _ _ _ _ _ c.loop-bytes.invariant.taken c.in_ok-read_more.ensures.read;
  count = omega (arith, c.loop-bytes.invariant.count, c.in_ok-read_more.ensures.count);
}

pub returns-clause-all : goal.returns-clause-all
returns-clause-all g c =
    let read = c.in_ok-read_more.ensures.read in
    TakesFront-all _ _ _ (TakesFront-on _ _ _ _ _ c.loop-bytes.invariant.taken read)
    (c.in_ok-read_more.ensures.ended cc)

pub returns-clause-front : goal.returns-clause-front
returns-clause-front g c =
    let read = c.in_ok-read_more.ensures.read in
    let taken = TakesFront-on _ _ _ _ _ c.loop-bytes.invariant.taken read in
    let bytes = c.read_more.new.bytes in
    let len : length bytes.items ≡ vec_len bytes = cc (bytes.ok.0) in (
      vec_len bytes,
      omega (arith, c.in_ok-read_more.ensures.within),
      TakesCount-front _ _ _ _ len taken,
      ((λ h. cc), (λ h. absurd (omega (arith, c.in_ok-read_more.ensures.within)))),
    )
