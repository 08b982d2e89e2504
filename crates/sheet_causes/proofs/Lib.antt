mod Chain
mod Tests
