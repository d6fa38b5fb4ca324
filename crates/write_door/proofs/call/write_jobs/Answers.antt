-- What was loaded are the first 513 entries of each table, and the writer gives the same for them as for all.
use Rattle.fields.specs.Tests.{no_minutes}
use Rattle.tables.proofs.TableSteps.{empty, room, loaded_front, given_front}
use Rattle.write_door.proofs.WriteSteps.{jobs_returned, jobs_put}
use Rattle.write_door.proofs.call.write_jobs.Goals as goal

pub returns : goal.returns
returns c =
    let ms = given_front c.args.minutes.now empty c.load_given-n.result room c.load_given-n.ensures.counted no_minutes
    c.load_given-n.ensures.loaded in
    let bs = loaded_front c.args.allowed.now empty c.load-m.result room c.load-m.ensures.counted
    c.load-m.ensures.loaded in
    record {
      written = jobs_returned c.args.h c.args.booked.now c.args.minutes.now c.args.allowed.now c.args.out.now ms bs
          c.write.ensures.0 c.write.ensures.1;
      output = jobs_put c.args.h c.args.booked.now c.args.minutes.now c.args.allowed.now c.args.out.now ms bs
          c.write.ensures.0 c.write.ensures.1;
    }
