-- The number of each kind of frame.
use Rattle.std.specs.Prelude.{ℕ}
use Rattle.frames.specs.declared.kind.FrameKind.{FrameKind}

-- the kinds of document 01's frames
abbrev pub number_of : FrameKind → ℕ
number_of FrameKind.Proposal = 1
number_of FrameKind.BlockVote = 2
number_of FrameKind.DummyVote = 3
number_of FrameKind.Finalize = 4
number_of FrameKind.BlockCertificate = 5
number_of FrameKind.DummyCertificate = 6
number_of FrameKind.FinalizeCertificate = 7
