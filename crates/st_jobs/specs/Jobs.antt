-- What a job asks for, in the words of the table of commands. The words to use: asked_of for a job, file_texts for the
-- names of its files.
use Rattle.std.specs.Prelude.{List, [], ◌∷◌, map, codes}
use Rattle.std.specs.String.{string_bytes}
use Rattle.st_base.specs.declared.limits.Limits.{Limits}
use Rattle.st_jobs.specs.declared.job.Names.{Names}
use Rattle.st_jobs.specs.declared.job.Job.{Job}
use Rattle.st_jobs.specs.declared.job.Job.TheVariants.{Run, Plain, Sim, Check, Post, Gen}
use Rattle.st_jobs.specs.Words.{Text}
use Rattle.st_jobs.specs.Commands.{Asked, Setting, setting, workers_id}

abbrev pub file_texts : Names → List Text
file_texts names = map string_bytes names.files.items

abbrev pub limit_settings : Limits → List Setting
limit_settings l =
    setting (codes "stack") l.stack ∷ setting (codes "cells") l.cells ∷ setting (codes "steps") l.steps ∷ []

abbrev pub asked_of : Job → Asked
asked_of (Run a) = record {
  command = codes "run";
  settings = setting workers_id a.workers ∷ limit_settings a.limits;
  schedule = [];
  files = file_texts a.names;
}
asked_of (Plain a) = record {
  command = codes "plain";
  settings = setting workers_id a.workers ∷ limit_settings a.limits;
  schedule = [];
  files = file_texts a.names;
}
asked_of (Sim a) = record {
  command = codes "sim";
  settings = setting workers_id a.args.workers ∷ (setting (codes "turns") a.turns ∷ limit_settings a.args.limits);
  schedule = a.schedule.items;
  files = file_texts a.args.names;
}
asked_of (Check names) = record { command = codes "check"; settings = []; schedule = []; files = file_texts names }
asked_of (Post names) = record { command = codes "post"; settings = []; schedule = []; files = file_texts names }
asked_of (Gen a) = record {
  command = codes "gen";
  settings = setting (codes "number") a.number ∷ setting workers_id a.workers ∷ [];
  schedule = [];
  files = [];
}
