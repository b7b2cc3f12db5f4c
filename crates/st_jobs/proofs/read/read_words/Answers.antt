use Rattle.st_jobs.proofs.JobLemmas.{job_of-unknown}
use Rattle.st_jobs.proofs.read.read_words.Goals as goal

pub returns-in_default-as_str-clause-usage : goal.returns-in_default-as_str-clause-usage
returns-in_default-as_str-clause-usage c e =
    let other = c.in_default-as_str in
    job_of-unknown c.args.words.now c.in-Some.command.now c.as_str.result.now c.in-Some.ensures.value c.as_str.ensures.value (record {
      not_run = other.not-run;
      not_plain = other.not-plain;
      not_sim = other.not-sim;
      not_check = other.not-check;
      not_post = other.not-post;
      not_gen = other.not-gen;
    })
