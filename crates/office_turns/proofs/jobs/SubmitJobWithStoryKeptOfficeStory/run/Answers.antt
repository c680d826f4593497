use Rattle.std.proofs.Common.{ℤ, subst, w64, rules}
use Rattle.std.proofs.lemmas.Int.{to_z-of_z}
use Rattle.office_turns.specs.Submitted.{Submitted}
use Rattle.office_turns.proofs.jobs.SubmitJobWithStoryKeptOfficeStory.run.Goals as goal

pub returns-clause-test : goal.returns-clause-test
returns-clause-test g c =
    let story = c.args.value.now.story in
    record {
      reading = c.minute-reading.result;
      given = c.minute-reading.ensures;
      submitted = subst (λ (z : ℤ). Submitted story.opened.value story.happenings.items c.submit.new.self.story.happenings.items c.args.self.asked.now z c.submit.result)
          (to_z-of_z w64 c.minute-reading.result (search rules)) c.submit.ensures.submitted;
    }
