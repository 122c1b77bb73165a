-- The test of the rules for a leader who equivocates is what `Equivocating` says, of frames that are read.
use Rattle.std.specs.Prelude.{◌≡◌, true, false}
use Rattle.std.proofs.Common.{ap, ◌∙◌}
use Rattle.protocol.specs.Bytes.{Bytes}
use Rattle.protocol.specs.Frame.{frame_height}
use Rattle.protocol.specs.State.{Height, at, decode}
use Rattle.protocol.specs.Deliver.{leader_equivocates}
use Rattle.protocol.proofs.Laws.RowLaws.{not_passed}
use Rattle.protocol.proofs.Laws.DeliverLaws.{Accepts, Equivocates, equivocates, equivocal}
use Rattle.call_laws.specs.Equivocating.{Equivocation}

module _ (digest : Bytes → Bytes) (book frame : Bytes) where
  pub equivocation : Accepts digest book frame → leader_equivocates (decode book) frame ≡ true →
      Equivocation (decode book) frame
  equivocation accepts is =
      let e = equivocates (decode book) frame is in
      let there : at (decode book) (frame_height frame) ≡ at (decode book) (decode book).current =
      ap (at (decode book)) e.here in
      record {
        proposed = record {
          read = accepts.passes;
          proposes = e.proposes;
          here = e.here;
          by_leader = accepts.read.led e.proposes ∙ ap (λ (x : Height). x.leader) there;
        };
        held = rw there at e.held;
        unlike = rw there at e.unlike;
      }

  pub as_tested : Equivocation (decode book) frame → Equivocates (decode book) frame
  as_tested e = record {
    proposes = e.proposed.proposes;
    held = rw e.proposed.here e.held;
    unlike = rw e.proposed.here e.unlike;
    here = e.proposed.here;
  }

  pub passes_test : Equivocation (decode book) frame → leader_equivocates (decode book) frame ≡ true
  passes_test e = equivocal (decode book) frame (as_tested e)

  pub fails_test : Accepts digest book frame → (Equivocation (decode book) frame → ⊥) →
      leader_equivocates (decode book) frame ≡ false
  fails_test accepts never = not_passed _ (λ is. never (equivocation accepts is))
