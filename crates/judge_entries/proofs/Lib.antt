-- `Judging`: from judged documents to what the judging entries answer.
mod Judging
