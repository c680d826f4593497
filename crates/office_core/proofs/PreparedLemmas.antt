-- What is prepared may be committed still, where state and counts stayed and the room did not shrink.
use Rattle.std.proofs.Common.{◌≡◌, List, Option, Some, None, IsTrue, ℕ, sym, subst, arith}
use Rattle.event_life.specs.Reordered.{are_lawful}
use Rattle.event_numbers.specs.declared.Count.{Count}
use Rattle.event_numbers.specs.Counts.{AreDrawnInOrder}
use Rattle.office_core.specs.Agreement.{Agrees}
use Rattle.office_core.specs.Prepared.{HasPlace, MayCommit, MayTakeMade, Readied, changed, draws}
use Rattle.office_core.specs.Rules.{unknown_desk}
use Rattle.office_core.specs.Sound.{IsSound}
use Rattle.office_core.specs.State.{State}
use Rattle.office_core.specs.Step.{drafts_after, state_after}
use Rattle.office_core.specs.Views.{IsRoomier, OfficeView}
use Rattle.office_core.specs.declared.made.Made.{Made}

module _ (o now : OfficeView) (state : now.state ≡ o.state) (counts : now.counts ≡ o.counts) (room : IsRoomier o.room now.room) where
  still_taken : (t : ℕ) (made : Option Made) → MayTakeMade o t made → MayTakeMade now t made
  still_taken t None may = tt
  still_taken t (Some made) may = record {
    lawful = subst (λ (s : State). IsTrue (are_lawful s.rows t made.sent.lines)) (sym state) may.lawful;
    numbers = subst (λ (c : List Count). AreDrawnInOrder c made.opened) (sym counts) may.numbers;
    rows_room = omega (arith, may.rows_room, room.rows);
    numbers_room = omega (arith, may.numbers_room, room.numbers);
    products_room = omega (arith, may.products_room, room.products);
  }

  pub still_committed : (p : Readied) → MayCommit o p → MayCommit now p
  still_committed p may = record {
    desk = subst (λ (s : State). unknown_desk s p.entry.desk ≡ None) (sym state) may.desk;
    drafts = subst (λ (s : State). changed p.change s.drafts ≡ drafts_after s p.entry.desk p.entry.request p.entry.minute) (sym state) may.drafts;
    place = subst (λ (s : State). HasPlace p.change s.drafts) (sym state) may.place;
    product = still_taken p.entry.minute p.made may.product;
    sound = λ after drawn. subst (λ (s : State). IsSound (state_after s p.entry p.made) after) (sym state) (may.sound after (subst (λ (c : List Count). draws c after p.made) counts drawn));
    agrees = λ after drawn. subst (λ (s : State). Agrees (state_after s p.entry p.made) after) (sym state) (may.agrees after (subst (λ (c : List Count). draws c after p.made) counts drawn));
  }
