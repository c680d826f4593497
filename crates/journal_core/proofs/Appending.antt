-- What a crash leaves while a body is appended: one of the lists of bodies, after each of the three steps.
use Rattle.std.proofs.Common.{List, ℕ, Option}
use Rattle.desk_traits.specs.Crash.{AreCrashes, Crashes, LeavesOnly}
use Rattle.desk_traits.proofs.Moments.{both, weaker}
use Rattle.journal_core.specs.Image.{IsOneOf, Image, Half}
use Rattle.journal_core.specs.Journal.{Rests}
use Rattle.journal_core.proofs.Files.{rests_one, image_one, half_one}

module _ {D : Type 0} (crash : D → Crashes) (are_crashes : (d : D) → AreCrashes (crash d)) (bodies : List (List ℕ)) (pending : Option (List ℕ)) (body : List ℕ) where
  -- the gate was closed, and the record staged
  pub staged : (old closed new : D) → LeavesOnly (crash old) (crash closed) (Rests bodies pending) → LeavesOnly (crash closed) (crash new) (λ f. Image f bodies) → LeavesOnly (crash old) (crash new) (IsOneOf bodies pending body)
  staged old closed new closing staging =
      let P = IsOneOf bodies pending body in
      both crash are_crashes old closed new P P (weaker crash are_crashes old closed (Rests bodies pending) P (rests_one bodies pending body) closing) (weaker crash are_crashes closed new (λ f. Image f bodies) P (image_one bodies pending body) staging) (λ f p. p)

  -- then the gate was opened
  pub opened : (old closed ready new : D) → LeavesOnly (crash old) (crash closed) (Rests bodies pending) → LeavesOnly (crash closed) (crash ready) (λ f. Image f bodies) → LeavesOnly (crash ready) (crash new) (λ f. Half f bodies body) → LeavesOnly (crash old) (crash new) (IsOneOf bodies pending body)
  opened old closed ready new closing staging opening =
      let P = IsOneOf bodies pending body in
      both crash are_crashes old ready new P P (staged old closed ready closing staging) (weaker crash are_crashes ready new (λ f. Half f bodies body) P (half_one bodies pending body) opening) (λ f p. p)
