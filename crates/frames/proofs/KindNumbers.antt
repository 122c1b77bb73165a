-- The number of each kind fits into the byte in which a frame carries it.
use Rattle.std.specs.Prelude.{◌<◌}
use Rattle.std.proofs.Common.{arith}
use Rattle.frames.specs.declared.kind.FrameKind.{FrameKind}
use Rattle.frames.specs.Kind.{number_of}

pub number_small : (kind : FrameKind) → number_of kind < 256
number_small FrameKind.Proposal = omega arith
number_small FrameKind.BlockVote = omega arith
number_small FrameKind.DummyVote = omega arith
number_small FrameKind.Finalize = omega arith
number_small FrameKind.BlockCertificate = omega arith
number_small FrameKind.DummyCertificate = omega arith
number_small FrameKind.FinalizeCertificate = omega arith
