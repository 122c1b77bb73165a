-- `sha256_into` meets its contract: the bytes that are copied are the digest's. Assumes nothing.
use Rattle.std.proofs.Common.{◌≡◌, true, leb, ◌++◌, length, drop, sym, ap, arith, rules, length-take, le-leb}
use Rattle.std.proofs.lemmas.Bool.{lt-leb}
use Rattle.sha256_c.specs.Written.{written}
use Rattle.sha256_c.proofs.sha256_into.Goals as goal

pub returns-then-out-lt32 : goal.returns-then-out-lt32
unfolding written
returns-then-out-lt32 c = record {
  answer = sym (lt-leb 32 _ c.if-out-lt32.true);
  after = rw (lt-leb 32 (length c.args.out.now) c.if-out-lt32.true);
}

pub copy_from_slice-requires : goal.copy_from_slice-requires
copy_from_slice-requires c = let whole : length c.sha256.result ≡ 32 = search rules in
    simp length-take (omega arith)

pub returns : goal.returns
unfolding written
returns c = let out = c.args.out.now in
    let room : leb 32 (length out) ≡ true = le-leb 32 (length out) c.if-out-lt32.false in
    record {
      answer = sym room;
      after = rw (room, ← c.sha256.ensures) (ap (λ front. front ++ drop 32 out) c.copy_from_slice.ensures.after);
    }
