mod ReplyLemmas
mod StepLemmas
