-- What was gathered, of an office from its opening on.
use Rattle.std.proofs.Common.{ℕ, ℤ, ◌≡◌, ◌<◌, List, [], length, inl, inr, refl, sym, ◌∙◌, ap, subst, arith}
use Rattle.desk_links.specs.Links.{PortState}
use Rattle.desk_traits.specs.declared.disk.Disk.{Ghosts as Disks}
use Rattle.office_journal.specs.declared.kept.KeptOffice.{KeptOffice}
use Rattle.office_turns.specs.Since.{IsSince}
use Rattle.office_turns.specs.declared.happening.Happening.{Happening}
use Rattle.turn_lock.specs.Passes.{Closes, PassRecord}
use Rattle.warn_serve.specs.Calls.{AnswersCall, LosesCall}
use Rattle.warn_serve.specs.Gathered.{IsGathered, IsPartOf}
use Rattle.warn_serve.specs.Served.{HasListened, HasPart, IsServed, Part, passes_of}
use Rattle.warn_serve.specs.Shares.{SharesOut}
use Rattle.warn_serve.specs.Sharing.{IsShared}
use Rattle.warn_serve.specs.declared.serving.ServeEnd.{ServeEnd}
use Rattle.warn_serve.specs.declared.serving.ServeEnd.TheVariants.{OutOfMemory}
use Rattle.warn_serve.proofs.Gathering.{is_shared}
use Rattle.warn_serve.proofs.Returning.{takes_none}

module _ {D : Type 0} (d : Disks D) (gives : ℤ → Type 0) (opened kept : KeptOffice D d) where
  part_since : (old : PassRecord (KeptOffice D d) (Happening D d)) (p : Part (PassRecord (KeptOffice D d) (Happening D d))) → old.base ≡ opened → old.seen ≡ [] → IsPartOf (AnswersCall gives) (LosesCall gives) old p → HasPart d gives opened p
  part_since old p base none h = record { start = h.start; base = h.is_share.base ∙ base; unseen = h.is_share.seen ∙ none; none_added = h.is_share.mine; visits = h.visits; ends = h.ends }

  -- nobody could be had
  pub served_none : (number workers connections : ℕ) (port : PortState) (happenings : List (Happening D d)) → happenings ≡ [] → 0 < connections → IsSince d opened kept happenings → IsServed d gives opened kept number workers connections port port OutOfMemory
  served_none number workers connections port happenings none some since = record {
    happenings = happenings;
    since = since;
    parts = [];
    shared = record {
      begins = λ k x less. absurd (omega (arith, less));
      once = λ i j x less high. absurd (omega (arith, less, high));
      all = λ place less. absurd (let e = ap length none in omega (arith, less));
      counted = ap length none;
    };
    served = λ k x less. absurd (omega (arith, less));
    shares = inr (some, tt);
    listened = inr (refl, refl);
    returned = omega arith;
    links = (takes_none port).links;
    later = (takes_none port).later;
    ends = (inl some, omega arith);
  }

  pub served_all : (base : KeptOffice D d) (given : List ℕ) (number workers connections : ℕ) (first last : PortState) (end : ServeEnd) (old new : PassRecord (KeptOffice D d) (Happening D d)) (happenings : List (Happening D d))
      → old.base ≡ opened → old.seen ≡ [] → old.first ≡ 0 → old.mine ≡ []
      → HasListened number first last → IsGathered (AnswersCall gives) (LosesCall gives) given connections first last old new end → SharesOut workers connections given end → Closes new base happenings → IsSince d opened kept happenings → IsServed d gives opened kept number workers connections first last end
  served_all base given number workers connections first last end old new happenings b s f m listened g out closes since = record {
    happenings = happenings;
    since = since;
    parts = g.parts;
    shared = subst (λ (n : ℕ). IsShared n happenings (passes_of g.parts)) f (is_shared old new (passes_of g.parts) base happenings m g.passes closes);
    served = λ k x less. part_since old _ b s (g.served k x less);
    shares = subst (λ (l : List ℕ). SharesOut workers connections l end) (sym g.given_is) out;
    listened = listened;
    returned = g.back.returned;
    links = g.back.links;
    later = g.back.later;
    ends = g.ends;
  }
